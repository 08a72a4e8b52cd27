-- Defines which states can be reached, and that they are more than a search may keep.
use Rattle.std.specs.Prelude.{◌≡◌, ◌⊎◌, ℕ, ◌+◌, ◌<◌, ◌==◌, if◌then◌else◌, Bool, List, [], ◌∷◌, length, min}
use Rattle.std.specs.Prelude.{slice_get, Some}
use Rattle.ick_code.specs.meaning.State.{State}
use Rattle.ick_outcomes.specs.Programs.{ask, advance, Program}
use Rattle.ick_backtrack.specs.Asked.{IsGoing}
use Rattle.ick_outcomes.specs.Accounts.{Configuration}
use Rattle.ick_chain.specs.Places.{AllSuit, AllTell, states_in}
use Rattle.ick_chain.specs.declared.chain.Fork.{Fork}
use Rattle.ick_chain.specs.declared.chain.Node.{Node}
use Rattle.ick_chain.specs.declared.chain.Node.TheVariants.{Ends, Goes, Stuck}

-- the state that steps with these answers lead to
abbrev pub led : Program → State → List Bool → State
led p s [] = s
led p s (b ∷ bs) = led p (advance p s b) bs

-- the run goes on before each of these steps
abbrev pub AreMade : Program → State → List Bool → Type 0
AreMade p s [] = Unit {0}
AreMade p s (b ∷ bs) = IsGoing (ask p s) × AreMade p (advance p s b) bs

-- steps of the program lead from s to t
pub record IsReached (p : Program) (s t : State) : Type 0 where
  pub answers : List Bool
  pub made : AreMade p s answers
  pub leads : led p s answers ≡ t

abbrev pub AreReached : Program → State → List State → Type 0
AreReached p s ss = (i : ℕ) (t : State) → slice_get ss i ≡ Some t → IsReached p s t

-- no two of these states are equal
abbrev pub AreDifferent : List State → Type 0
AreDifferent ss = (i j : ℕ) (s : State) → slice_get ss i ≡ Some s → slice_get ss j ≡ Some s → i ≡ j

-- an edge of a node leads to the state with this number
abbrev pub LeadsTo : Node → ℕ → Type 0
LeadsTo Ends i = ⊥
LeadsTo (Goes f) i = (f.zero.to ≡ i) ⊎ (f.one.to ≡ i)
LeadsTo (Stuck f) i = (f.zero.to ≡ i) ⊎ (f.one.to ≡ i)

-- the same of one of these nodes
pub record IsLedTo (nodes : List Node) (i : ℕ) : Type 0 where
  pub from : ℕ
  pub node : Node
  pub there : slice_get nodes from ≡ Some node
  pub leads : LeadsTo node i

-- the steps along the edges of a fork, of which only one is there if nothing is asked
abbrev pub fork_steps : Fork → ℕ
fork_steps f = f.zero.steps + (if f.chance == 0 then 0 else f.one.steps)

-- the steps along the edges of nodes
abbrev pub steps_at : Node → ℕ
steps_at Ends = 0
steps_at (Goes f) = fork_steps f
steps_at (Stuck f) = fork_steps f

abbrev pub steps_in : List Node → ℕ
steps_in [] = 0
steps_in (n ∷ ns) = steps_at n + steps_in ns

-- a number, or the greatest one of 64 bits if it is greater
abbrev pub in_64_bits : ℕ → ℕ
in_64_bits n = min n 18446744073709551615

-- So many steps find these states: the steps along the edges of some nodes. An edge leads to each state but the first.
pub record AreFoundBy (p : Program) (ss : List State) (steps : ℕ) : Type 0 where
  pub nodes : List Node
  pub each : AllTell p ss nodes
  pub led : (i : ℕ) → 0 < i → i < length ss → IsLedTo nodes i
  pub counted : steps ≡ in_64_bits (steps_in nodes)

-- more than `most` different states can be reached from s, and so many steps find them
pub record HasMoreStates (p : Program) (s : State) (most steps : ℕ) : Type 0 where
  pub states : List State
  pub more : most < length states
  pub different : AreDifferent states
  pub reached : AreReached p s states
  pub found : AreFoundBy p states steps

-- what a search keeps for each state besides the state: its node, and its places in a list and in an index
abbrev pub node_bytes : ℕ
node_bytes = 96

-- the bytes of these states, and of what is kept for them
abbrev pub bytes_of : {S : Type 0} → (S → ℕ) → List S → ℕ
bytes_of size [] = 0
bytes_of size (x ∷ xs) = size x + node_bytes + bytes_of size xs

-- different states that can be reached from s take more than `memory` bytes
pub record TakesMore {S : Type 0} (p : Program) (seen : S → Configuration) (suits : S → Type 0) (size : S → ℕ)
    (s : State) (memory : ℕ) : Type 0 where
  pub states : List S
  pub more : memory < bytes_of size states
  pub suit : AllSuit suits states
  pub different : AreDifferent (states_in seen states)
  pub reached : AreReached p s (states_in seen states)
