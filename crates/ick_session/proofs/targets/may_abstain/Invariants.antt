use Rattle.std.proofs.Common.{◌≡◌, false, take}
use Rattle.std.specs.List.{list_any}
use Rattle.ick_session.specs.Targets.{is_of_abstaining}
use Rattle.ick_session.proofs.targets.may_abstain.Given as goal

abbrev pub invariant-loop-op : goal.invariant-loop-op
invariant-loop-op l = list_any is_of_abstaining (take l.op-index l.ops) ≡ false
