-- The bit operators by positions.
use Rattle.std.specs.Prelude.{ℕ, zero, suc, ◌+◌, ◌*◌, ◌/◌, ◌%◌, ◌^◌, min, max}
use Rattle.std.specs.Prelude.{nat_lt, ◌==◌, ◌&&◌, if◌then◌else◌, Result, Ok, Err}
use Rattle.std.specs.Int.{bit_at}
use Rattle.ick_bits.specs.Values.{Bits, Narrow, Wide, number_of, limit_of}
use Rattle.ick_bits.specs.declared.faults.FaultKind.{FaultKind}
use Rattle.ick_bits.specs.declared.faults.FaultKind.TheVariants.{SixtyFour}
use Rattle.ick_bits.specs.declared.values.Width.TheVariants.{Sixteen}

-- the sum of f over the positions below n
unfoldable pub sum_below : ℕ → (ℕ → ℕ) → ℕ
sum_below zero f = 0
sum_below (suc n) f = sum_below n f + f n

-- the number of n bits whose bit i is f i
unfoldable pub with_bits : ℕ → (ℕ → ℕ) → ℕ
with_bits n f = sum_below n (λ i. f i * 2 ^ i)

-- mingle: bit 2i + 1 is bit i of the left operand, bit 2i that of the right
abbrev pub mingled_bit : ℕ → ℕ → ℕ → ℕ
mingled_bit a b i = if i % 2 == 1 then bit_at a (i / 2) else bit_at b (i / 2)

unfoldable pub mingled : Bits → Bits → Result Bits FaultKind
mingled a b =
    if nat_lt (number_of a) (limit_of Sixteen) && nat_lt (number_of b) (limit_of Sixteen)
    then Ok (Wide (with_bits 32 (mingled_bit (number_of a) (number_of b))))
    else Err SixtyFour

-- how many ones b has below a position
unfoldable pub ones_below : ℕ → ℕ → ℕ
ones_below b n = sum_below n (bit_at b)

-- select: over the positions where both have a one, 2 to the number of b's ones below it
unfoldable pub selected_bits : ℕ → ℕ → ℕ → ℕ
selected_bits a b n = sum_below n (λ i. bit_at a i * bit_at b i * 2 ^ ones_below b i)

unfoldable pub selected : Bits → Bits → Bits
selected a b =
    let packed = selected_bits (number_of a) (number_of b) 32 in
    if nat_lt 16 (ones_below (number_of b) 32) then Wide packed else Narrow packed

-- the operators on two bits
abbrev pub and_bit : ℕ → ℕ → ℕ
and_bit x y = min x y

abbrev pub or_bit : ℕ → ℕ → ℕ
or_bit x y = max x y

abbrev pub xor_bit : ℕ → ℕ → ℕ
xor_bit x y = (x + y) % 2

-- unary: bit i is the operator on bits i and i + 1, the highest with bit 0
unfoldable pub with_neighbours : (ℕ → ℕ → ℕ) → ℕ → ℕ → ℕ
with_neighbours op w n = with_bits w (λ i. op (bit_at n i) (bit_at n ((i + 1) % w)))

unfoldable pub unary : (ℕ → ℕ → ℕ) → Bits → Bits
unary op (Narrow n) = Narrow (with_neighbours op 16 n)
unary op (Wide n) = Wide (with_neighbours op 32 n)
