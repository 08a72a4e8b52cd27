-- States how an explorer's marks and points fit the choices that it keeps, for every start state of its runs.
use Rattle.std.specs.Prelude.{◌≡◌, ◌≢◌, ℕ, nat_lt, Bool, true, false, List, [], length}
use Rattle.std.specs.List.{list_all}
use Rattle.ick_code.specs.meaning.Move.{Asking, plain, choice, ended, ask}
use Rattle.ick_backtrack.specs.Machine.{Machine}
use Rattle.ick_explorer.specs.Listings.{zeros_in}
use Rattle.ick_explorer.specs.declared.path.Path.{Path}
use Rattle.ick_explorer.specs.declared.path.Progress.{Progress}
use Rattle.ick_explorer.specs.declared.path.Progress.TheVariants.{Given}

abbrev pub is_choice : Asking → Bool
is_choice plain = false
is_choice (choice _) = true
is_choice (ended _) = false

-- each zero has a mark in a state that asks a choice, and a number of steps below the limit
pub record IsMarked (limit : ℕ) (m : Machine) (c : List Bool) (points : List ℕ) : Type 0 where
  pub marked : length m.marks ≡ zeros_in c
  pub counted : length points ≡ zeros_in c
  pub choosing : list_all (λ s. is_choice (ask m.program s)) m.marks ≡ true
  pub below : list_all (λ n. nat_lt n limit) points ≡ true

abbrev pub HasMarks : ℕ → Machine → Path → Type 0
HasMarks limit m path = IsMarked limit m path.choices path.points.items

-- an explorer that has given no run keeps no choices
pub record IsPlaced (progress : Progress) (c : List Bool) : Type 0 where
  pub none : progress ≢ Given → c ≡ []
