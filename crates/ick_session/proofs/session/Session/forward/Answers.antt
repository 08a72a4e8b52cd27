use Rattle.std.proofs.Common.{◌++◌, ap₂}
use Rattle.ick_step.specs.Seen.{present}
use Rattle.ick_step.specs.Histories.{history}
use Rattle.ick_session.specs.Changes.{printed_text}
use Rattle.ick_session.specs.Travel.{where_text}
use Rattle.ick_inspect.proofs.AddLaws.{same, then}
use Rattle.ick_session.proofs.session.Session.forward.Goals as goal

pub returns-clause-text : goal.returns-clause-text
returns-clause-text c =
    let t = history c.travel.new.self.history in
    same (ap₂ (λ n f. printed_text n (present t) ++ where_text f c.args.positions.now t)
    c.printed-printed.ensures c.travel.ensures.fixed) (then c.append_printed.ensures c.append_here.ensures)
