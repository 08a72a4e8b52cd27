-- Defines the chain of a program, the visits of its nodes, and what an answer without a limit claims.
use Prim.Native.Nat.{suc}
use Rattle.std.specs.Prelude.{◌≡◌, ◌⊎◌, ℕ, ◌+◌, ◌*◌, ◌-◌, ◌^◌, ◌<◌, ◌≤◌, Bool, true, false, List, [], ◌∷◌}
use Rattle.std.specs.Prelude.{length, slice_get, Some}
use Rattle.ick_code.specs.meaning.State.{State, Ending}
use Rattle.ick_code.specs.meaning.Move.{plain, choice, ended}
use Rattle.ick_outcomes.specs.Programs.{ask, advance, Program, IsPlain, RunsOn}
use Rattle.ick_chain.specs.declared.chain.Edge.{Edge}
use Rattle.ick_chain.specs.declared.chain.Fork.{Fork}
use Rattle.ick_chain.specs.declared.chain.Node.{Node}
use Rattle.ick_chain.specs.declared.chain.Node.TheVariants.{Ends, Goes, Stuck}
use Rattle.ick_outcomes.specs.Weights.{part}
use Rattle.ick_chain.specs.Limits.{Test, all_if, ended_weight, going_weight, mean_steps}

-- a step with this answer and then plain steps, as many as the edge says in all, lead from s to the edge's node
pub record Leads (p : Program) (seen : ℕ → State) (s : State) (b : Bool) (e : Edge) : Type 0 where
  pub some : 0 < e.steps
  pub runs : RunsOn p (advance p s b) (e.steps - 1) (seen e.to)

-- s asks for a choice, and both answers lead to nodes
pub record IsChoice (p : Program) (seen : ℕ → State) (s : State) (f : Fork) : Type 0 where
  pub asks : ask p s ≡ choice f.chance
  pub zero : Leads p seen s false f.zero
  pub one : Leads p seen s true f.one

-- s asks nothing, and leads to a node
pub record IsPass (p : Program) (seen : ℕ → State) (s : State) (f : Fork) : Type 0 where
  pub asks : ask p s ≡ plain
  pub chance : f.chance ≡ 0
  pub zero : Leads p seen s false f.zero

abbrev pub IsFork : Program → (ℕ → State) → State → Fork → Type 0
IsFork p seen s f = IsChoice p seen s f ⊎ IsPass p seen s f

-- what a node says of its state
abbrev pub IsNode : Program → (ℕ → State) → State → Node → Type 0
IsNode p seen s Ends = (e : Ending) × (ask p s ≡ ended e)
IsNode p seen s (Goes f) = IsFork p seen s f
IsNode p seen s (Stuck f) = IsFork p seen s f

-- each node says what its state asks, and where it leads
abbrev pub IsChain : Program → (ℕ → State) → List Node → Type 0
IsChain p seen nodes = (i : ℕ) (n : Node) → slice_get nodes i ≡ Some n → IsNode p seen (seen i) n

-- a node from which no end can be reached
abbrev pub IsStuck : List Node → ℕ → Type 0
IsStuck nodes i = (f : Fork) × (slice_get nodes i ≡ Some (Stuck f))

-- both edges of a fork lead to one of so many nodes
pub record IsInside (f : Fork) (count : ℕ) : Type 0 where
  pub chance : f.chance ≤ 100
  pub zero : f.zero.to < count
  pub one : f.one.to < count

-- stuck nodes lead to stuck nodes alone
pub record StaysStuck (nodes : List Node) (f : Fork) : Type 0 where
  pub zero : IsStuck nodes f.zero.to
  pub one : IsStuck nodes f.one.to

abbrev pub IsClosed : List Node → Type 0
IsClosed nodes = (i : ℕ) (f : Fork) → slice_get nodes i ≡ Some (Stuck f) → StaysStuck nodes f

-- the sum of the visits, each times the value of its node
abbrev pub dot : (ℕ → ℕ) → List ℕ → ℕ
dot u [] = 0
dot u (y ∷ ys) = y * u 0 + dot (λ i. u (suc i)) ys

-- what flows on from a fork to the nodes of these values, in hundredths
abbrev pub out : (ℕ → ℕ) → Fork → ℕ
out v f = part f.chance false * v f.zero.to + part f.chance true * v f.one.to

abbrev pub out_of : (ℕ → ℕ) → Node → ℕ
out_of v Ends = 0
out_of v (Goes f) = out v f
out_of v (Stuck f) = 0

abbrev pub poured : (ℕ → ℕ) → List Node → List ℕ → ℕ
poured v [] ys = 0
poured v (n ∷ ns) [] = 0
poured v (n ∷ ns) (y ∷ ys) = y * out_of v n + poured v ns ys

-- the visits of each node are those that begin there, and those that come from other nodes. Said of sums, with any
-- values for the nodes
pub record AreVisits (nodes : List Node) (first : ℕ) (parts : ℕ) (visits : List ℕ) : Type 0 where
  pub long : length visits ≡ length nodes
  pub flows : (u : ℕ → ℕ) → 100 * dot u visits ≡ 100 * (parts * u first) + poured u nodes visits

-- the visits are right, in so many parts, and no end can be reached from stuck nodes
pub record IsSolution (nodes : List Node) (parts : ℕ) (visits : List ℕ) : Type 0 where
  pub some : 0 < parts
  pub closed : IsClosed nodes
  pub are_visits : AreVisits nodes 0 parts visits

-- the visits of ended nodes whose states pass: the weight of the runs that end so
abbrev pub passing_at : Bool → ℕ → Node → ℕ
passing_at b y Ends = all_if b y
passing_at b y (Goes f) = 0
passing_at b y (Stuck f) = 0

abbrev pub passing : (ℕ → Bool) → List Node → List ℕ → ℕ
passing q [] ys = 0
passing q (n ∷ ns) [] = 0
passing q (n ∷ ns) (y ∷ ys) = passing_at (q 0) y n + passing (λ i. q (suc i)) ns ys

-- the visits of stuck nodes: the weight of the runs that never end
abbrev pub stuck_at : ℕ → Node → ℕ
stuck_at y Ends = 0
stuck_at y (Goes f) = 0
stuck_at y (Stuck f) = y

abbrev pub never : List Node → List ℕ → ℕ
never [] ys = 0
never (n ∷ ns) [] = 0
never (n ∷ ns) (y ∷ ys) = stuck_at y n + never ns ys

-- the steps at a fork, in hundredths, and over all visits: the mean number of steps before a run ends or is stuck
abbrev pub steps_at : Node → ℕ
steps_at Ends = 0
steps_at (Goes f) = part f.chance false * f.zero.steps + part f.chance true * f.one.steps
steps_at (Stuck f) = 0

abbrev pub all_steps : List Node → List ℕ → ℕ
all_steps [] ys = 0
all_steps (n ∷ ns) [] = 0
all_steps (n ∷ ns) (y ∷ ys) = y * steps_at n + all_steps ns ys

abbrev pub negate : Bool → Bool
negate true = false
negate false = true

-- An exact answer for the runs from s, in parts: `weight q` of them end in a state that passes q, `forever` never end,
-- and the others make `steps` hundredths of steps. For each limit: what has ended weighs no more; what goes on weighs
-- no less than what never ends; and what goes on and will end weighs at most `steps` by the limit
pub record IsExact (p : Program) (s : State) (parts : ℕ) (weight : Test → ℕ) (forever steps : ℕ) : Type 0 where
  pub some : 0 < parts
  pub whole : (q : Test) → weight q + weight (λ s. negate (q s)) + forever ≡ parts
  pub ends : (q : Test) (l : ℕ) → parts * ended_weight p q s l ≤ weight q * 100 ^ l
  pub goes : (l : ℕ) → forever * 100 ^ l ≤ parts * going_weight p s l
  pub soon : (l : ℕ) → 100 * (l * (parts * going_weight p s l)) ≤ (steps + 100 * (l * forever)) * 100 ^ l
  pub mean : (l : ℕ) → 100 * (parts * mean_steps p s l) ≤ (steps + 100 * (l * forever)) * 100 ^ l

-- two exact answers are the same fractions
pub record AreSame (a b : ℕ) (v w : Test → ℕ) (f g : ℕ) : Type 0 where
  pub weights : (q : Test) → b * v q ≡ a * w q
  pub forever : b * f ≡ a * g

-- there is one exact answer at most
abbrev pub IsOneAnswer : Program → State → Type 0
IsOneAnswer p s = (a b : ℕ) (v w : Test → ℕ) (f g m n : ℕ) → IsExact p s a v f m → IsExact p s b w g n →
    AreSame a b v w f g
