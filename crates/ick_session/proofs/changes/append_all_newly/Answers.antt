use Rattle.std.proofs.Common.{sym}
use Rattle.ick_machine.specs.StateView.{present_state}
use Rattle.ick_session.specs.Changes.{newly_line}
use Rattle.ick_inspect.proofs.AddLaws.{nothing, numbered_more, same, then}
use Rattle.ick_session.proofs.changes.append_all_newly.Goals as goal

pub loop-index-init : goal.loop-index-init
loop-index-init c = nothing c.args.out.now

pub loop-index-preserved : goal.loop-index-preserved
loop-index-preserved c =
    same (sym (numbered_more (newly_line c.args.word.now (present_state c.args.before.now)
    (present_state c.args.after.now)) c.loop-index.index))
    (then c.loop-index.invariant c.append_newly.ensures)
