use Rattle.std.proofs.Common.{◌≡◌, drop}
use Rattle.ick_bits.specs.Digits.{digit_of}
use Rattle.ick_bits.proofs.PackedLemmas.{digit_packed}
use Rattle.ick_bits.proofs.digits.digit_named.Given as goal

-- the rest of the table answers
abbrev pub invariant-loop-name : goal.invariant-loop-name
invariant-loop-name l = digit_of l.word ≡ digit_packed l.packed (drop l.name-index l.name-items)
