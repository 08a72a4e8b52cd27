-- A value: its width and its number.
use Rattle.std.specs.Prelude.{ℕ}
use Rattle.ick_bits.specs.declared.values.Width.{Width}
use Rattle.ick_bits.specs.declared.values.Width.TheVariants.{Sixteen, ThirtyTwo}

-- what contracts see of a value
pub data Bits : Type 0 where
  Narrow : (n : ℕ) → Bits
  Wide : (n : ℕ) → Bits

abbrev pub number_of : Bits → ℕ
number_of (Narrow n) = n
number_of (Wide n) = n

abbrev pub width_of : Bits → Width
width_of (Narrow n) = Sixteen
width_of (Wide n) = ThirtyTwo

-- the least number that is too great for a width
abbrev pub limit_of : Width → ℕ
limit_of Sixteen = 65536
limit_of ThirtyTwo = 4294967296
