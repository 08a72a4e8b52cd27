-- Defines what the search for a chain keeps of its states and nodes.
use Rattle.std.specs.Prelude.{◌≡◌, ◌⊎◌, ℕ, ◌-◌, ◌<◌, Bool, true, false, List, ◌++◌, map, length, slice_get}
use Rattle.std.specs.Prelude.{Some, slice_index_or}
use Rattle.std.specs.List.{All}
use Rattle.ick_code.specs.meaning.State.{State, Ending}
use Rattle.ick_code.specs.meaning.Move.{plain, choice, ended}
use Rattle.ick_outcomes.specs.Programs.{ask, advance, Program, IsPlain, RunsOn}
use Rattle.ick_outcomes.specs.Accounts.{Configuration}
use Rattle.ick_chain.specs.declared.chain.Edge.{Edge}
use Rattle.ick_chain.specs.declared.chain.Fork.{Fork}
use Rattle.ick_chain.specs.declared.chain.Node.{Node}
use Rattle.ick_chain.specs.declared.chain.Node.TheVariants.{Ends, Goes, Stuck}

-- a step with this answer and then plain steps, as many as the edge says in all, lead from s to a state of these
pub record Reaches (p : Program) (ss : List State) (s : State) (b : Bool) (e : Edge) : Type 0 where
  pub to : State
  pub there : slice_get ss e.to ≡ Some to
  pub some : 0 < e.steps
  pub runs : RunsOn p (advance p s b) (e.steps - 1) to

pub record ForksByChoice (p : Program) (ss : List State) (s : State) (f : Fork) : Type 0 where
  pub asks : ask p s ≡ choice f.chance
  pub zero : Reaches p ss s false f.zero
  pub one : Reaches p ss s true f.one

pub record ForksByPass (p : Program) (ss : List State) (s : State) (f : Fork) : Type 0 where
  pub asks : ask p s ≡ plain
  pub chance : f.chance ≡ 0
  pub zero : Reaches p ss s false f.zero

abbrev pub Forks : Program → List State → State → Fork → Type 0
Forks p ss s f = ForksByChoice p ss s f ⊎ ForksByPass p ss s f

-- what a node says of its state, with edges to these states
abbrev pub Tells : Program → List State → State → Node → Type 0
Tells p ss s Ends = (e : Ending) × (ask p s ≡ ended e)
Tells p ss s (Goes f) = Forks p ss s f
Tells p ss s (Stuck f) = Forks p ss s f

-- each node tells of the state with the same number
abbrev pub AllTell : Program → List State → List Node → Type 0
AllTell p ss nodes =
    (i : ℕ) (n : Node) (s : State) → slice_get nodes i ≡ Some n → slice_get ss i ≡ Some s → Tells p ss s n

-- states were appended
abbrev pub Extends : List State → List State → Type 0
Extends old new = (more : List State) × (new ≡ old ++ more)

-- a node for each state
pub record IsFull (p : Program) (ss : List State) (nodes : List Node) : Type 0 where
  pub long : length nodes ≡ length ss
  pub each : AllTell p ss nodes

-- the state with a number
abbrev pub state_or : State → List State → ℕ → State
state_or d ss i = slice_index_or ss i d

-- what contracts see of states, in order
abbrev pub states_in : {S : Type 0} → (S → Configuration) → List S → List State
states_in seen xs = map (λ x. (seen x).state) xs

-- each state is of the program
abbrev pub AllSuit : {S : Type 0} → (S → Type 0) → List S → Type 0
AllSuit suits xs = All suits xs
