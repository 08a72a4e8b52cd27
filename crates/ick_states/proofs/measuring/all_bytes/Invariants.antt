use Rattle.std.proofs.Common.{◌≤◌, take}
use Rattle.ick_states.specs.Sizes.{all_bytes}
use Rattle.ick_states.proofs.measuring.all_bytes.Given as goal

abbrev pub invariant-loop-at : goal.invariant-loop-at
invariant-loop-at g l = l.bytes ≤ all_bytes g.T.Measured.size (take l.at l.items)
