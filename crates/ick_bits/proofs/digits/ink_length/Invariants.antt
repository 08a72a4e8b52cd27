use Rattle.std.proofs.Common.{◌≡◌, ℕ, ◌<◌, get_or, false}
use Rattle.ick_bits.specs.White.{is_white_byte}
use Rattle.ick_bits.proofs.digits.ink_length.Given as goal

abbrev pub invariant-loop-index : goal.invariant-loop-index
invariant-loop-index l = (k : ℕ) → k < l.index → is_white_byte (get_or l.rest k 0) ≡ false
