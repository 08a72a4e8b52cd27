-- How large trees are: what a recursion over them goes down by.
use Rattle.std.proofs.Common.{◌≡◌, ℕ, zero, suc, ◌+◌, ◌<◌, List, [], ◌∷◌, length, get_or, ap}
use Rattle.std.proofs.Common.{◌∙◌, arith}
use Rattle.ick_syntax.specs.declared.tree.Element.{Element as ElementRecord}
use Rattle.ick_syntax.specs.declared.tree.Expr.{Expr}
use Rattle.ick_syntax.specs.declared.tree.Expr.TheVariants.{Element}
use Rattle.ick_syntax.specs.Tree.{Tree, mesh, scalar, element, unary, binary, Trees, none, more, tree_of, trees_in}
use Rattle.ick_syntax.proofs.TreeLemmas.{tree_of-element}

abbrev mutual
  pub size_of : Tree → ℕ
  size_of (mesh n) = 1
  size_of (scalar name) = 1
  size_of (element array subs) = 3 + sizes_of subs
  size_of (unary op t) = 1 + size_of t
  size_of (binary op a b) = 1 + (size_of a + size_of b)

  pub sizes_of : Trees → ℕ
  sizes_of none = 0
  sizes_of (more t ts) = 1 + (size_of t + sizes_of ts)

member : (es : List Expr) (i : ℕ) (e d : Expr) → i < length es → e ≡ get_or es i d →
    size_of (tree_of e) < 1 + sizes_of (trees_in es)
member [] i e d within is = absurd (omega arith)
member (x ∷ es) zero e d within is = omega (arith, ap (λ e. size_of (tree_of e)) is)
member (x ∷ es) (suc i) e d within is = omega (arith, member es i e d (omega arith) is)

pub smaller_member : (es : List Expr) (i : ℕ) (e : Expr) (t : ℕ) → i < length es → e ≡ get_or es i e →
    1 + sizes_of (trees_in es) ≡ t → size_of (tree_of e) < t
smaller_member es i e t within is whole = omega (arith, member es i e e within is)

pub smaller_element : (x : ElementRecord) (e : Expr) (t : ℕ) → e ≡ Element x → size_of (tree_of e) ≡ t →
    2 + sizes_of (trees_in x.subs.items) < t
smaller_element x e t is whole = omega (arith, ap (λ e. size_of (tree_of e)) is ∙ ap size_of (tree_of-element x))
