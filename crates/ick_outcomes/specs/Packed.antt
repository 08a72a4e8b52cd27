-- Defines the choices that bytes represent, eight to a byte.
use Prim.Native.Nat.{zero, suc}
use Rattle.std.specs.Prelude.{ℕ, ◌/◌, ◌%◌, Bool, true, false, List, [], ◌∷◌, ◌++◌}
use Rattle.ick_explorer.specs.Order.{IsBelow}
use Rattle.ick_outcomes.specs.declared.choices.Choices.{Choices}

-- the choice that a bit is
abbrev pub bit : ℕ → Bool
bit zero = false
bit (suc n) = true

-- the n choices that a number represents, the first by its least significant bit
abbrev pub bits : ℕ → ℕ → List Bool
bits zero w = []
bits (suc n) w = bit (w % 2) ∷ bits n (w / 2)

-- the choices of bytes, and other choices behind them
abbrev pub unpacked : List ℕ → List Bool → List Bool
unpacked [] l = l
unpacked (w ∷ ws) l = bits 8 w ++ unpacked ws l

abbrev pub choices_of : Choices → List Bool
choices_of c = unpacked c.packed.items c.last.items

-- whether the first of two lists that differ is the earlier one
abbrev pub IsEarlier : List Bool → List Bool → Bool → Type 0
IsEarlier c d true = IsBelow c d
IsEarlier c d false = IsBelow d c
