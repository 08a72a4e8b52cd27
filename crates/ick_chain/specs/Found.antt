-- Defines what a search knows of the states that it has found.
use Rattle.std.specs.Prelude.{◌≡◌, ℕ, ◌≤◌, List, slice_get, Some}
use Rattle.std.specs.HashMap.{HashMap}
use Rattle.ick_code.specs.meaning.State.{State}
use Rattle.ick_outcomes.specs.Programs.{Program}
use Rattle.ick_outcomes.specs.Accounts.{Configuration}
use Rattle.ick_outcomes.specs.Keys.{Lacks}
use Rattle.ick_chain.specs.Places.{AllSuit, states_in}
use Rattle.ick_chain.specs.Reached.{AreDifferent, IsReached, bytes_of}
use Rattle.ick_chain.specs.declared.search.Found.{Found}

-- an index is noted for the key of each state
abbrev pub IsIndexed : {S M : Type 0} → (S → ℕ) → HashMap ℕ ℕ M → List S → Type 0
IsIndexed key places xs = (i : ℕ) (x : _) → slice_get xs i ≡ Some x → Lacks places (key x) → ⊥

-- none of these states is s
abbrev pub IsNew : List State → State → Type 0
IsNew ss s = (i : ℕ) → slice_get ss i ≡ Some s → ⊥

-- s can be reached from the first of these states
abbrev pub IsReachedIn : Program → List State → State → Type 0
IsReachedIn p ss s = (first : State) → slice_get ss 0 ≡ Some first → IsReached p first s

-- the states are of the program, different, and reached from the first one. The index has the key of each of them
pub record IsFound {S : Type 0} (p : Program) (seen : S → Configuration) (suits : S → Type 0) (key size : S → ℕ)
    (found : Found S) : Type 0 where
  pub suit : AllSuit suits found.states.items
  pub indexed : IsIndexed key found.index.rows found.states.items
  pub different : AreDifferent (states_in seen found.states.items)
  pub reached : (i : ℕ) (s : State) → slice_get (states_in seen found.states.items) i ≡ Some s →
      IsReachedIn p (states_in seen found.states.items) s
  pub counted : found.bytes ≤ bytes_of size found.states.items
