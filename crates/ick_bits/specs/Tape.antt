-- The tape of characters that arrays are read and written by.
use Rattle.std.specs.Prelude.{ℕ, ◌+◌, ◌-◌, ◌%◌}
use Rattle.std.specs.Int.{bit_at}
use Rattle.ick_bits.specs.Operators.{with_bits}

-- a - b modulo 256
abbrev pub byte_difference : ℕ → ℕ → ℕ
byte_difference a b = (a + (256 - b % 256)) % 256

-- the position of the tape after a number was written, if it was at `last` before
abbrev pub tape_position : ℕ → ℕ → ℕ
tape_position last value = byte_difference last value

-- bit i of the result is bit 7 - i of the byte
unfoldable pub reversed_byte : ℕ → ℕ
reversed_byte byte = with_bits 8 (λ i. bit_at byte (7 - i))

-- how far a byte stands from the one before it
abbrev pub tape_difference : ℕ → ℕ → ℕ
tape_difference lastin byte = byte_difference byte lastin
