-- Operations of expressions, one after another.
use Rattle.std.proofs.Common.{◌≡◌, ℕ, ◌+◌, ◌<◌, List, [], ◌∷◌, ◌++◌, length, take, get_or}
use Rattle.std.proofs.Common.{sym, ap, ◌∙◌, append_assoc, append-nil}
use Rattle.ick_syntax.specs.declared.tree.Expr.{Expr}
use Rattle.ick_syntax.specs.Tree.{tree_of, trees_in}
use Rattle.ick_code.specs.declared.emit.OpsDraft.{OpsDraft}
use Rattle.ick_code.specs.Effects.{Slots}
use Rattle.ick_code.specs.Operations.{ops_of_tree, ops_of_trees}
use Rattle.ick_code.specs.Emitted.{Emits}
use Rattle.ick_code.proofs.TakeLemmas.{take_with}

ops-more : (slots : Slots) (es : List Expr) (e : Expr) →
    ops_of_trees slots (trees_in (es ++ e ∷ [])) ≡ ops_of_trees slots (trees_in es) ++ ops_of_tree slots (tree_of e)
ops-more slots [] e = append-nil (ops_of_tree slots (tree_of e))
ops-more slots (x ∷ es) e =
    ap (λ l. ops_of_tree slots (tree_of x) ++ l) (ops-more slots es e)
    ∙ sym
    (append_assoc (ops_of_tree slots (tree_of x)) (ops_of_trees slots (trees_in es)) (ops_of_tree slots (tree_of e)))

pub emitted_more : (slots : Slots) (old so_far new : OpsDraft) (es : List Expr) (i : ℕ) (e : Expr) →
    Emits (ops_of_trees slots (trees_in (take i es))) old so_far →
    Emits (ops_of_tree slots (tree_of e)) so_far new →
    i < length es →
    e ≡ get_or es i e →
    Emits (ops_of_trees slots (trees_in (take (i + 1) es))) old new
emitted_more slots old so_far new es i e before now within is held =
    let last = now held in
    let others = before last.0 in (
      others.0,
      last.1
          ∙ ap (λ l. l ++ ops_of_tree slots (tree_of e)) others.1
          ∙ append_assoc old.ops.items (ops_of_trees slots (trees_in (take i es))) (ops_of_tree slots (tree_of e))
          ∙ ap (λ l. old.ops.items ++ l)
          (sym (ap (λ l. ops_of_trees slots (trees_in l)) (take_with es i e within is) ∙ ops-more slots (take i es) e)),
    )
