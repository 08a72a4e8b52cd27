use Rattle.std.proofs.Common.{◌≡◌, ap, ◌∙◌, sym}
use Rattle.ick_syntax.specs.Tree.{tree_of}
use Rattle.ick_source.specs.Expression.{leaf, leaves}
use Rattle.ick_source.proofs.CursorLemmas.{does_then}
use Rattle.ick_source.proofs.ExpressionReadings.{does_make, leaf_sized}
use Rattle.ick_source.proofs.cursor.Cursor.leaf.Goals as goal
use Rattle.ick_source.proofs.cursor.Cursor.leaf.Goals.{in-Some, in-None}

pub returns-clause-reads : goal.returns-clause-reads
unfolding leaves
returns-clause-reads c =
    let number = rw c.sort_of.ensures at c.number-number.ensures in
    let made = c.made-value.ensures in
    let tree : tree_of c.match-kind.value ≡ leaf c.args.kind c.number-number.result =
    elim c.match-kind.branch [
      | in-Some w ↦ ap tree_of w.value-is ∙ ap (λ k. leaf k c.number-number.result) (sym w.in-Some.is)
      | in-None w ↦ ap tree_of w.value-is ∙ ap (λ k. leaf k c.number-number.result) (sym w.in-None.is)
    ] in
    does_then _ _ _ _ _ _ _ c.unary-op.ensures (λ u e. made.stays u (number.stays u e))
    (λ o f p. does_then _ _ _ _ _ _ _ number made.stays
    (λ n k q. does_make _ _ _ _ _ _ _ made c.applied.ensures
    (λ t. leaf_sized _ _ _ _ _ _ _ _ _ p.same t tree q.is_clamped p.none q.is_faults)))
