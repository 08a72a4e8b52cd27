use Rattle.std.proofs.Common.{sym}
use Rattle.ick_code.specs.Compiled.{code_slots}
use Rattle.ick_machine.specs.StateView.{present_state}
use Rattle.ick_session.specs.Changes.{name_line}
use Rattle.ick_inspect.proofs.AddLaws.{nothing, same, then}
use Rattle.ick_session.proofs.StepLaws.{targets_more}
use Rattle.ick_session.proofs.changes.append_names.Goals as goal

pub loop-at-init : goal.loop-at-init
loop-at-init c = nothing c.args.out.now

pub loop-at-preserved : goal.loop-at-preserved
loop-at-preserved c =
    same (sym (targets_more (name_line (present_state c.args.before.now) (present_state c.args.after.now))
    (code_slots c.args.code.now) c.args.ops.now c.loop-at.at _ c.loop-at-test.true))
    (then c.loop-at.invariant c.append_changed.ensures)
