use Rattle.ick_session.specs.Session.{seen}
use Rattle.ick_step.specs.Histories.{history}
use Rattle.ick_session.proofs.TravelLaws.{back_short}
use Rattle.ick_session.proofs.session.Session.back.Goals as goal

pub returns-clause-short : goal.returns-clause-short
returns-clause-short c =
    back_short c.back-gone.result (seen c.args.self.now) (history c.back-gone.new.self) c.args.steps
    c.back-gone.ensures.errors c.back-gone.ensures.no_memory c.back-gone.ensures.program c.back-gone.ensures.start
