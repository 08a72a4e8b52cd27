use Rattle.std.proofs.Common.{ap}
use Rattle.ick_session.specs.Session.{seen}
use Rattle.ick_session.specs.Travel.{where_text}
use Rattle.ick_inspect.proofs.AddLaws.{same}
use Rattle.ick_session.proofs.session.Session.answer_back.Goals as goal

pub returns-clause-text : goal.returns-clause-text
returns-clause-text c =
    same (ap (λ f. where_text f c.args.positions.now (seen c.back.new.self)) c.back.ensures.fixed) c.append_here.ensures
