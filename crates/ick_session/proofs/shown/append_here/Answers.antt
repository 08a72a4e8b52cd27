use Rattle.std.proofs.Common.{ap₂}
use Rattle.ick_backtrack.specs.Asked.{finish_of}
use Rattle.ick_session.specs.Shown.{over_text}
use Rattle.ick_inspect.proofs.AddLaws.{same, then}
use Rattle.ick_session.proofs.ShownLaws.{here_over}
use Rattle.ick_session.proofs.shown.append_here.Goals as goal

pub returns-in-Ended : goal.returns-in-Ended
returns-in-Ended c =
    same (here_over _ _ c.args.steps _ (finish_of c.in-Ended.end) c.in-Ended.ensures)
    (then (then c.push_decimal.ensures c.push.ensures)
    (same (ap₂ (λ p s. over_text p c.args.positions.now (finish_of c.in-Ended.end) s) c.present-present.ensures.program
    c.present-present.ensures.state) c.append_over.ensures))
