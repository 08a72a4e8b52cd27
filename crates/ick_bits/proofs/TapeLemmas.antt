-- Reversing the eight bits of a byte, by all 256 bytes.
use Rattle.std.proofs.Common.{◌≡◌, ℕ, ◌<◌, refl, w8}
use Rattle.std.specs.Int.{reverse_bits, reverse_bits_onto}
use Rattle.ick_bits.specs.Operators.{sum_below, with_bits}
use Rattle.ick_bits.specs.Tape.{reversed_byte}
use Rattle.ick_bits.proofs.TableLemmas.{true_below, agree_at}

-- std's form is the one by positions
pub reverses : (b : ℕ) → b < 256 → reverse_bits w8 b ≡ reversed_byte b
unfolding true_below reversed_byte with_bits sum_below reverse_bits_onto
reverses = agree_at (reverse_bits w8) reversed_byte 256 refl

-- twice gives the byte back
pub twice : (b : ℕ) → b < 256 → reversed_byte (reversed_byte b) ≡ b
unfolding true_below reversed_byte with_bits sum_below
twice = agree_at (λ b. reversed_byte (reversed_byte b)) (λ b. b) 256 refl
