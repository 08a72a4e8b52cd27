-- Defines lists of choices for the nodes of a chain that are related along edges.
use Rattle.std.specs.Prelude.{◌≡◌, ℕ, Bool, List, [], ◌∷◌, ◌++◌, if◌then◌else◌}
use Rattle.ick_chain.specs.declared.chain.Edge.{Edge}
use Rattle.ick_chain.specs.declared.chain.Fork.{Fork}
use Rattle.ick_chain.specs.declared.chain.Node.{Node}
use Rattle.ick_chain.specs.declared.chain.Node.TheVariants.{Ends, Goes, Stuck}

-- the node goes on by a fork
abbrev pub IsForkOf : Node → Fork → Type 0
IsForkOf Ends f = ⊥
IsForkOf (Goes g) f = g ≡ f
IsForkOf (Stuck g) f = g ≡ f

abbrev pub edge_of : Fork → Bool → Edge
edge_of f b = if b then f.one else f.zero

-- w has a list of choices for each node. Along each edge from a node that leads to a node of G, the first is of G too,
-- and their lists are related: that of the second, and that of the first with the choice of the edge behind it
pub record IsWay (G : ℕ → Type 0) (R : List Bool → List Bool → Type 0) (w : ℕ → List Bool) (i : ℕ) (f : Fork)
    : Type 0 where
  pub plain_way : f.chance ≡ 0 → G f.zero.to → G i × R (w f.zero.to) (w i)
  pub choice_way : (f.chance ≡ 0 → ⊥) → (b : Bool) → G (edge_of f b).to →
      G i × R (w (edge_of f b).to) (w i ++ b ∷ [])
