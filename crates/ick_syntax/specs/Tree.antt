-- Expressions as trees, whose numbers may be of any size, and the tree of an expression of the program.
use Rattle.std.specs.Prelude.{ℕ, Option, Some, None, List, [], ◌∷◌}
use Rattle.ick_syntax.specs.declared.tree.Name.{Name}
use Rattle.ick_syntax.specs.declared.tree.UnaryOp.{UnaryOp}
use Rattle.ick_syntax.specs.declared.tree.BinaryOp.{BinaryOp}
use Rattle.ick_syntax.specs.declared.tree.Expr.{Expr, Mesh, Scalar, Element', Unary', Binary', Row_of-Expr, end_of-Expr}
use Rattle.ick_syntax.specs.declared.tree.Expr.{more_of-Expr}

mutual
  pub data Tree : Type 0 where
    mesh : ℕ → Tree
    scalar : Name → Tree
    element : Name → Trees → Tree
    unary : UnaryOp → Tree → Tree
    binary : BinaryOp → Tree → Tree → Tree

  pub data Trees : Type 0 where
    none : Trees
    more : Tree → Trees → Trees

-- the operator applied to the tree, if there is an operator
abbrev pub under : Option UnaryOp → Tree → Tree
under None t = t
under (Some o) t = unary o t

abbrev pub join : Trees → Trees → Trees
join none ts = ts
join (more t us) ts = more t (join us ts)

-- the tree of an expression of the program
abbrev mutual
  pub tree_of : Expr → Tree
  tree_of (Mesh n) = mesh n
  tree_of (Scalar x) = scalar x
  tree_of (Element' x shape row) = element x (trees_of row)
  tree_of (Unary' o p e) = unary o (tree_of e)
  tree_of (Binary' o p a q b) = binary o (tree_of a) (tree_of b)

  pub trees_of : {n : _} → Row_of-Expr n → Trees
  trees_of end_of-Expr = none
  trees_of (more_of-Expr e row) = more (tree_of e) (trees_of row)

abbrev pub trees_in : List Expr → Trees
trees_in [] = none
trees_in (e ∷ es) = more (tree_of e) (trees_in es)
