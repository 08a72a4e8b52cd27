-- Defines the weight of a run: what its probability would be if each choice were drawn for itself, with its chance.
use Prim.Native.Nat.{zero, suc}
use Rattle.std.specs.Prelude.{ℕ, ◌+◌, ◌*◌, ◌-◌, ◌^◌, Bool, true, false, List, [], ◌∷◌}
use Rattle.ick_code.specs.meaning.State.{State}
use Rattle.ick_code.specs.meaning.Move.{Asking, plain, choice, ended}
use Rattle.ick_outcomes.specs.Programs.{ask, advance, Program}

-- the chance, in hundredths, that a statement with this chance is done, or that it is passed over
abbrev pub part : ℕ → Bool → ℕ
part chance true = chance
part chance false = 100 - chance

-- a choice multiplies by its part, another step by 100, and an end by 100 for each step that is left
abbrev pub share_on : Asking → ℕ → List Bool → (Bool → List Bool → ℕ) → ℕ
share_on (ended e) l c rest = 100 ^ suc l
share_on plain l c rest = 100 * rest false c
share_on (choice chance) l [] rest = 0
share_on (choice chance) l (b ∷ c) rest = part chance b * rest b c

-- the weight of the run from s with these choices, in parts of 100 ^ limit
unfoldable pub share : Program → State → ℕ → List Bool → ℕ
share p s zero c = 1
share p s (suc l) c = share_on (ask p s) l c (λ b rest. share p (advance p s b) l rest)

-- the weight of these runs together
abbrev pub shares : Program → State → ℕ → List (List Bool) → ℕ
shares p s limit [] = 0
shares p s limit (c ∷ cs) = share p s limit c + shares p s limit cs

abbrev pub product_on : Asking → List Bool → (Bool → List Bool → ℕ) → ℕ
product_on (ended e) c rest = 1
product_on plain c rest = rest false c
product_on (choice chance) [] rest = 0
product_on (choice chance) (b ∷ c) rest = part chance b * rest b c

-- the product of the parts over the choices of the run from s: the weight of the run is this / 100 ^ length c
unfoldable pub product : Program → State → ℕ → List Bool → ℕ
product p s zero c = 1
product p s (suc l) c = product_on (ask p s) c (λ b rest. product p (advance p s b) l rest)

-- 1000000000 to the power of the places that are not used, of the most that there can be
unfoldable pub room : ℕ → ℕ
room places = 1000000000 ^ (4294967295 - places)

-- the weight 1, in parts so small that each weight is a whole number of them
abbrev pub whole : ℕ
whole = room 0

-- top / 1000000000 ^ places of the whole, in units of 100 ^ left parts
abbrev pub amount : ℕ → ℕ → ℕ → ℕ
amount top places left = top * (room (left + places) * 10000000 ^ left)
