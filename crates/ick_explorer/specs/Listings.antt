-- Defines listings, and the steps that two runs share.
use Rattle.std.specs.Prelude.{◌≡◌, ◌⊎◌, ℕ, ◌+◌, Bool, true, false, List, [], ◌∷◌, map, Option}
use Rattle.std.specs.List.{Contains}
use Rattle.ick_code.specs.meaning.State.{State}
use Rattle.ick_backtrack.specs.Machine.{Program}
use Rattle.ick_explorer.specs.Runs.{run, IsWhole}
use Rattle.ick_explorer.specs.Order.{IsBelow, IsAfter, IsIncreasing}

-- the listing from a position: increasing, and its members are exactly the whole lists after the position
pub record IsListing (p : Program) (s : State) (limit : ℕ) (from : Option (List Bool)) (cs : List (List Bool))
    : Type 0 where
  pub increasing : IsIncreasing cs
  pub sound : (c : List Bool) → Contains cs c → IsWhole p s limit c × IsAfter from c
  pub complete : (c : List Bool) → IsWhole p s limit c → IsAfter from c → Contains cs c

-- d is the least whole list after a position
pub record IsLeastAfter (p : Program) (s : State) (limit : ℕ) (from : Option (List Bool))
    (d : List Bool) : Type 0 where
  pub whole : IsWhole p s limit d
  pub after : IsAfter from d
  pub least : (e : List Bool) → IsWhole p s limit e → IsAfter from e → (e ≡ d) ⊎ IsBelow d e

-- no whole list comes after the position
abbrev pub IsLast : Program → State → ℕ → Option (List Bool) → Type 0
IsLast p s limit from = (e : List Bool) → IsWhole p s limit e → ¬ IsAfter from e

-- the longest common prefix of both lists
abbrev pub common : List Bool → List Bool → List Bool
common (false ∷ c) (false ∷ d) = false ∷ common c d
common (true ∷ c) (true ∷ d) = true ∷ common c d
common _ _ = []

-- the steps made before the choice at which c and d first differ, that is, by their common prefix
abbrev pub shared : Program → State → ℕ → List Bool → List Bool → ℕ
shared p s limit c d = (run p s limit (common c d)).steps

-- the prefixes of c that end just before its zeros
abbrev pub before_zeros : List Bool → List (List Bool)
before_zeros [] = []
before_zeros (false ∷ c) = [] ∷ map (λ r. false ∷ r) (before_zeros c)
before_zeros (true ∷ c) = map (λ r. true ∷ r) (before_zeros c)

-- the number of zeros
abbrev pub zeros_in : List Bool → ℕ
zeros_in [] = 0
zeros_in (false ∷ c) = zeros_in c + 1
zeros_in (true ∷ c) = zeros_in c
