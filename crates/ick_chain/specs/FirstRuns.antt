-- Defines which of the runs with an outcome is shown for it.
use Rattle.std.specs.Prelude.{◌≡◌, ◌⊎◌, ℕ, ◌<◌, Bool, List, length}
use Rattle.ick_code.specs.meaning.State.{State}
use Rattle.ick_outcomes.specs.Programs.{Program}
use Rattle.ick_explorer.specs.Order.{IsBelow}
use Rattle.ick_chain.specs.Shown.{IsShown}

-- c is d, or comes before it in the order of listings
abbrev pub IsNoLater : List Bool → List Bool → Type 0
IsNoLater c d = (c ≡ d) ⊎ IsBelow c d

-- c has fewer choices than d, or as many, and then it is no later
abbrev pub IsNoMore : List Bool → List Bool → Type 0
IsNoMore c d = (length c < length d) ⊎ ((length c ≡ length d) × IsNoLater c d)

-- c is the first of those runs with an outcome that have the fewest choices
pub record IsFewest (p : Program) (s : State) (output end : List ℕ) (c : List Bool) : Type 0 where
  pub shown : IsShown p s output end c
  pub fewest : (d : List Bool) → IsShown p s output end d → IsNoMore c d

-- no run with an outcome comes before c
abbrev pub IsSoonest : Program → State → List ℕ → List ℕ → List Bool → Type 0
IsSoonest p s output end c = (d : List Bool) → IsShown p s output end d → IsNoLater c d

-- c is the first of the runs with an outcome, in the order of listings
pub record IsFirst (p : Program) (s : State) (output end : List ℕ) (c : List Bool) : Type 0 where
  pub shown : IsShown p s output end c
  pub first : IsSoonest p s output end c
