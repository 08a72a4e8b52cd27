-- Describes the progress of a run, for the explorer's own contracts.
use Rattle.std.specs.Prelude.{◌≡◌, ℕ, ◌+◌, ◌≤◌, Bool, true, false, List, [], ◌∷◌, ◌++◌}
use Rattle.ick_backtrack.specs.Machine.{Program, Machine}
use Rattle.ick_code.specs.meaning.State.{State}
use Rattle.ick_explorer.specs.Runs.{Execution, run}

-- the run, n steps longer
abbrev pub later : ℕ → Execution → Execution
later n r = record r { steps = n + r.steps }

-- the run from s uses all of c in n steps, and goes on from t
pub record Leads (p : Program) (s : State) (limit : ℕ) (c : List Bool) (t : State) (n : ℕ) : Type 0 where
  pub within : n ≤ limit
  pub goes_on : (m : ℕ) (more : List Bool) → n + m ≡ limit →
      run p s limit (c ++ more) ≡ later n (run p t m more)

-- the machine has made n steps from old along the run with the choices c
pub record RunsTo (limit : ℕ) (old : Machine) (c : List Bool) (new : Machine) (n : ℕ) : Type 0 where
  pub program : new.program ≡ old.program
  pub work : new.work ≡ old.work + n
  pub leads : Leads old.program old.state limit c new.state n

abbrev pub AllOnes : List Bool → Type 0
AllOnes [] = Unit {0}
AllOnes (true ∷ c) = AllOnes c
AllOnes (false ∷ c) = ⊥

abbrev pub AllZeros : List Bool → Type 0
AllZeros [] = Unit {0}
AllZeros (false ∷ c) = AllZeros c
AllZeros (true ∷ c) = ⊥

-- the last zero of c comes just after the prefix pre
abbrev pub TurnsAt : List Bool → List Bool → Type 0
TurnsAt c pre = (ones : List Bool) × AllOnes ones × (c ≡ pre ++ false ∷ ones)

-- d is c up to its last zero, which is a one in d
abbrev pub Turns : List Bool → List Bool → Type 0
Turns c d = (pre : List Bool) × TurnsAt c pre × (d ≡ pre ++ true ∷ [])
