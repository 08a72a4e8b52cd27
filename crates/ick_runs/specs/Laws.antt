-- States the law of draws.
use Rattle.std.specs.Prelude.{◌≡◌, ℕ, Bool, List}
use Rattle.ick_code.specs.meaning.State.{State}
use Rattle.ick_backtrack.specs.Machine.{Program}
use Rattle.ick_runs.specs.Draws.{IsDrawn}

-- words draw a list of choices, and any other list that they draw is equal
pub record HasOneDrawing (p : Program) (s : State) (limit : ℕ) (word : ℕ → ℕ) : Type 0 where
  pub some : (c : List Bool) × IsDrawn p s limit word c
  pub unique : (c d : List Bool) → IsDrawn p s limit word c → IsDrawn p s limit word d → c ≡ d
