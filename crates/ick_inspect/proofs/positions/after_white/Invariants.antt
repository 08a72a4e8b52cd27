use Rattle.std.proofs.Common.{◌<◌, ◌≤◌, ◌-◌, ℕ, length}
use Rattle.std.specs.Prelude.{IsTrue, slice_index}
use Rattle.ick_bits.specs.White.{is_white_byte}
use Rattle.ick_inspect.proofs.positions.after_white.Given as goal

abbrev pub invariant-loop-at : goal.invariant-loop-at
invariant-loop-at l = record {
  order : l.fn.from ≤ l.at;
  within : l.at ≤ length l.source;
  white : (k : ℕ) → l.fn.from ≤ k → k < l.at → IsTrue (is_white_byte (slice_index l.source k));
}

abbrev pub decreases-loop-at : goal.decreases-loop-at
decreases-loop-at l = length l.source - l.at
