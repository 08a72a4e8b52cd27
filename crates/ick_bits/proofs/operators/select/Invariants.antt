use Rattle.std.proofs.Common.{◌≡◌, ◌+◌, ◌*◌, ◌^◌}
use Rattle.ick_bits.specs.Operators.{selected_bits, ones_below}
use Rattle.ick_bits.proofs.operators.select.Given as goal

-- what is packed, and what the rest would give above it
abbrev pub invariant-loop-mask : goal.invariant-loop-mask
invariant-loop-mask l = record {
  packed : selected_bits l.initial.from l.initial.mask 32 ≡ l.packed + selected_bits l.from l.mask 32 * 2 ^ l.ones;
  ones : ones_below l.initial.mask 32 ≡ l.ones + ones_below l.mask 32;
}

abbrev pub decreases-loop-mask : goal.decreases-loop-mask
decreases-loop-mask l = l.mask
