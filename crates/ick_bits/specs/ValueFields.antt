-- What the fields of a value stand for.
use Rattle.std.specs.Prelude.{ℕ, ◌<◌}
use Rattle.ick_bits.specs.Values.{Bits, Narrow, Wide, limit_of}
use Rattle.ick_bits.specs.declared.values.Width.{Width}
use Rattle.ick_bits.specs.declared.values.Width.TheVariants.{Sixteen, ThirtyTwo}
use Rattle.ick_bits.specs.declared.values.Value.TheInside.{Inside}

abbrev pub bits_of : Width → ℕ → Bits
bits_of Sixteen n = Narrow n
bits_of ThirtyTwo n = Wide n

abbrev pub bits_in : Inside → Bits
bits_in value = bits_of value.width value.number

-- the number fits the width
abbrev pub IsWithin : Inside → Type 0
IsWithin value = value.number < limit_of value.width

abbrev pub fields_of : Bits → Inside
fields_of (Narrow n) = record { number = n; width = Sixteen }
fields_of (Wide n) = record { number = n; width = ThirtyTwo }
