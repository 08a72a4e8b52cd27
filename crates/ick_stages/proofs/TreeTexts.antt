-- Trees as texts, and how large trees are.
use Rattle.std.proofs.Common.{◌≡◌, ℕ, zero, suc, ◌+◌, ◌<◌, List, [], ◌∷◌, ◌++◌, length, take, get_or, ap, sym}
use Rattle.std.proofs.Common.{◌∙◌, arith, append_assoc, append-nil}
use Rattle.std.proofs.lemmas.List.{take_more}
use Rattle.std.specs.Prelude.{codes}
use Rattle.ick_syntax.specs.declared.tree.Element.{Element as ElementRecord}
use Rattle.ick_syntax.specs.declared.tree.Expr.{Expr}
use Rattle.ick_syntax.specs.declared.tree.Expr.TheVariants.{Element}
use Rattle.ick_syntax.specs.Tree.{Tree, mesh, scalar, element, unary, binary, Trees, none, more, tree_of, trees_in}
use Rattle.ick_syntax.proofs.TreeLemmas.{tree_of-element}
use Rattle.ick_stages.specs.Trees.{tree_text, subs_text}

abbrev mutual
  pub size_of : Tree → ℕ
  size_of (mesh n) = 1
  size_of (scalar name) = 1
  size_of (element array subs) = 3 + sizes_of subs
  size_of (unary op t) = 1 + size_of t
  size_of (binary op a b) = 1 + (size_of a + size_of b)

  pub sizes_of : Trees → ℕ
  sizes_of none = 0
  sizes_of (more t ts) = 1 + (size_of t + sizes_of ts)

member : (es : List Expr) (i : ℕ) (e d : Expr) → i < length es → e ≡ get_or es i d →
    size_of (tree_of e) < 1 + sizes_of (trees_in es)
member [] i e d within is = absurd (omega arith)
member (x ∷ es) zero e d within is = omega (arith, ap (λ e. size_of (tree_of e)) is)
member (x ∷ es) (suc i) e d within is = omega (arith, member es i e d (omega arith) is)

pub smaller_member : (es : List Expr) (i : ℕ) (e : Expr) (t : ℕ) → i < length es → e ≡ get_or es i e →
    1 + sizes_of (trees_in es) ≡ t → size_of (tree_of e) < t
smaller_member es i e t within is whole = omega (arith, member es i e e within is)

pub smaller_element : (x : ElementRecord) (e : Expr) (t : ℕ) → e ≡ Element x → size_of (tree_of e) ≡ t →
    2 + sizes_of (trees_in x.subs.items) < t
smaller_element x e t is whole = omega (arith, ap (λ e. size_of (tree_of e)) is ∙ ap size_of (tree_of-element x))

subs_push : (es : List Expr) (e : Expr) →
    subs_text (trees_in (es ++ e ∷ [])) ≡ subs_text (trees_in es) ++ (codes " " ++ tree_text (tree_of e))
subs_push [] e = append-nil (codes " " ++ tree_text (tree_of e))
subs_push (x ∷ es) e =
    ap (λ l. (codes " " ++ tree_text (tree_of x)) ++ l) (subs_push es e)
    ∙ sym (append_assoc (codes " " ++ tree_text (tree_of x)) (subs_text (trees_in es)) (codes " " ++ tree_text (tree_of e)))

-- one more subscript
pub subs_more : (es : List Expr) (i : ℕ) (e : Expr) → i < length es → e ≡ get_or es i e →
    subs_text (trees_in (take (i + 1) es))
    ≡ subs_text (trees_in (take i es)) ++ (codes " " ++ tree_text (tree_of e))
subs_more es i e within is =
    ap (λ l. subs_text (trees_in l)) (take_more es i e within)
    ∙ (subs_push (take i es) (get_or es i e)
    ∙ ap (λ x. subs_text (trees_in (take i es)) ++ (codes " " ++ tree_text (tree_of x))) (sym is))
