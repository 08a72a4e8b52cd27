-- Defines that the nodes of a chain are numbered as a search by breadth meets them.
use Prim.Native.Nat.{suc}
use Rattle.std.specs.Prelude.{◌≡◌, ◌==◌, ℕ, ◌<◌, ◌≤◌, List, slice_get, Some, if◌then◌else◌}
use Rattle.ick_chain.specs.declared.chain.Edge.{Edge}
use Rattle.ick_chain.specs.declared.chain.Fork.{Fork}
use Rattle.ick_chain.specs.declared.chain.Node.{Node}
use Rattle.ick_chain.specs.declared.chain.Node.TheVariants.{Ends, Goes, Stuck}

-- how many nodes are numbered after an edge, if so many are before it: it leads to one of them, or to the next
abbrev pub met : ℕ → Edge → ℕ
met count e = if e.to == count then suc count else count

-- so it is for the edges of a fork, of which a state that asks nothing has one alone
abbrev pub met_fork : ℕ → Fork → ℕ
met_fork count f = if f.chance == 0 then met count f.zero else met (met count f.zero) f.one

abbrev pub met_by : ℕ → Node → ℕ
met_by count Ends = count
met_by count (Goes f) = met_fork count f
met_by count (Stuck f) = met_fork count f

pub record IsMetFork (count : ℕ) (f : Fork) : Type 0 where
  pub zero : f.zero.to ≤ count
  pub one : f.one.to ≤ met count f.zero

-- the edges of a node lead to numbered nodes, or to the next ones
abbrev pub IsMet : ℕ → Node → Type 0
IsMet count Ends = Unit {0}
IsMet count (Goes f) = IsMetFork count f
IsMet count (Stuck f) = IsMetFork count f

-- the edges of the first nodes, as many as `at`, lead to the nodes with numbers below `count`, and each of these was
-- numbered as the first edge that leads there was met
pub data AreNumbered (nodes : List Node) : (at count : ℕ) → Type 0 where
  first : AreNumbered nodes 0 1
  next : (at count : ℕ) (n : Node) → AreNumbered nodes at count → at < count → slice_get nodes at ≡ Some n →
      IsMet count n → AreNumbered nodes (suc at) (met_by count n)
