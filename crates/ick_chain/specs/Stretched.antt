-- Defines that each edge goes as far as it may: to a choice or an end, or as many steps as are made at a time.
use Rattle.std.specs.Prelude.{◌≡◌, ℕ, ◌≤◌, List, slice_get, Some}
use Rattle.ick_chain.specs.declared.chain.Edge.{Edge}
use Rattle.ick_chain.specs.declared.chain.Fork.{Fork}
use Rattle.ick_chain.specs.declared.chain.Node.{Node}
use Rattle.ick_chain.specs.declared.chain.Node.TheVariants.{Ends, Goes, Stuck}

-- a node goes on and asks nothing
abbrev pub IsPassing : Node → Type 0
IsPassing Ends = ⊥
IsPassing (Goes f) = f.chance ≡ 0
IsPassing (Stuck f) = f.chance ≡ 0

-- an edge has at most `most` steps, and so many if it leads to a node that asks nothing
pub record IsStretched (nodes : List Node) (most : ℕ) (e : Edge) : Type 0 where
  pub no_more : e.steps ≤ most
  pub full : (n : Node) → slice_get nodes e.to ≡ Some n → IsPassing n → e.steps ≡ most

pub record IsStretchedFork (nodes : List Node) (most : ℕ) (f : Fork) : Type 0 where
  pub zero : IsStretched nodes most f.zero
  pub one : IsStretched nodes most f.one

abbrev pub IsStretchedNode : List Node → ℕ → Node → Type 0
IsStretchedNode nodes most Ends = Unit {0}
IsStretchedNode nodes most (Goes f) = IsStretchedFork nodes most f
IsStretchedNode nodes most (Stuck f) = IsStretchedFork nodes most f

-- so are all edges
abbrev pub AreStretched : List Node → ℕ → Type 0
AreStretched nodes most = (i : ℕ) (n : Node) → slice_get nodes i ≡ Some n → IsStretchedNode nodes most n
