-- Defines the order of runs: that of their lists of choices.
use Rattle.std.specs.Prelude.{Bool, true, false, List, [], ◌∷◌, Option, Some, None}
use Rattle.std.specs.List.{Contains}

-- c is below d: at the first position at which they differ c has 0 and d has 1
abbrev pub IsBelow : List Bool → List Bool → Type 0
IsBelow (false ∷ c) (true ∷ d) = Unit {0}
IsBelow (true ∷ c) (false ∷ d) = ⊥
IsBelow (false ∷ c) (false ∷ d) = IsBelow c d
IsBelow (true ∷ c) (true ∷ d) = IsBelow c d
IsBelow [] _ = ⊥
IsBelow (_ ∷ _) [] = ⊥

-- c comes after a position: before all lists, or a list of choices
abbrev pub IsAfter : Option (List Bool) → List Bool → Type 0
IsAfter None c = Unit {0}
IsAfter (Some from) c = IsBelow from c

-- each list is below all that come later
abbrev pub IsIncreasing : List (List Bool) → Type 0
IsIncreasing [] = Unit {0}
IsIncreasing (c ∷ cs) = ((d : List Bool) → Contains cs d → IsBelow c d) × IsIncreasing cs
