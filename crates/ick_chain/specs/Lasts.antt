-- Defines numbers of nodes by which a run is shown to be the first with its outcome. If they are given to ended nodes
-- in the order of their first runs, each node has the number of the last end that it leads to.
use Rattle.std.specs.Prelude.{◌≡◌, ◌⊎◌, ℕ, ◌<◌, ◌≤◌, Bool, List, ◌++◌, slice_get, slice_index_or, Some}
use Rattle.ick_code.specs.meaning.State.{State}
use Rattle.ick_outcomes.specs.Programs.{Program}
use Rattle.ick_explorer.specs.Order.{IsBelow}
use Rattle.ick_chain.specs.declared.chain.Fork.{Fork}
use Rattle.ick_chain.specs.declared.chain.Node.{Node}
use Rattle.ick_chain.specs.FirstRuns.{IsSoonest}
use Rattle.ick_chain.specs.Places.{IsFull}
use Rattle.ick_chain.specs.Shown.{IsShown}
use Rattle.ick_chain.specs.Ways.{IsForkOf}

-- the number of a node
abbrev pub last_of : List ℕ → ℕ → ℕ
last_of lasts i = slice_index_or lasts i 0

-- no edge of a fork leads to a node with a greater number
pub record IsLast (lasts : List ℕ) (i : ℕ) (f : Fork) : Type 0 where
  pub zero : last_of lasts f.zero.to ≤ last_of lasts i
  pub one : (f.chance ≡ 0 → ⊥) → last_of lasts f.one.to ≤ last_of lasts i

-- so it is for each fork: no way leads to a node with a greater number
abbrev pub AreLasts : List Node → List ℕ → Type 0
AreLasts nodes lasts = (i : ℕ) (n : Node) (f : Fork) → slice_get nodes i ≡ Some n → IsForkOf n f → IsLast lasts i f

-- no run from a node with a number below `least` has the outcome
abbrev pub AreBarred : Program → List State → List ℕ → ℕ → List ℕ → List ℕ → Type 0
AreBarred p ss lasts least output end = (i : ℕ) (t : State) (d : List Bool) → slice_get ss i ≡ Some t →
    last_of lasts i < least → IsShown p t output end d → ⊥

-- a run begins with the choices c, and goes on from t to the outcome
pub record GoesOn (p : Program) (t : State) (output end : List ℕ) (c d : List Bool) : Type 0 where
  pub rest : List Bool
  pub is : c ++ rest ≡ d
  pub shown : IsShown p t output end rest

-- each run from s with the outcome goes on from t behind the choices c, or comes after all runs that do
pub record LeadsFirst (p : Program) (ss : List State) (s : State) (output end : List ℕ) (c : List Bool) (at : ℕ)
    : Type 0 where
  pub to : State
  pub there : slice_get ss at ≡ Some to
  pub each : (d : List Bool) → IsShown p s output end d → GoesOn p to output end c d ⊎ IsBelow c d

-- so it is for the first state and each outcome that no run has from a node with a number below `least`
abbrev pub LeadFirst : List Node → List ℕ → ℕ → List Bool → ℕ → Type 0
LeadFirst nodes lasts least c at = (p : Program) (ss : List State) (s : State) (output end : List ℕ) →
    IsFull p ss nodes → slice_get ss 0 ≡ Some s → AreBarred p ss lasts least output end →
    LeadsFirst p ss s output end c at

-- no run with such an outcome comes before the choices c
abbrev pub ShowSoonest : List Node → List ℕ → ℕ → List Bool → Type 0
ShowSoonest nodes lasts least c = (p : Program) (ss : List State) (s : State) (output end : List ℕ) →
    IsFull p ss nodes → slice_get ss 0 ≡ Some s → AreBarred p ss lasts least output end → IsSoonest p s output end c
