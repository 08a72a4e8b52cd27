use Rattle.std.proofs.Common.{◌+◌, ap, ◌∙◌, sym}
use Rattle.ick_syntax.specs.Tree.{tree_of, trees_in}
use Rattle.ick_syntax.proofs.TreeLemmas.{tree_of-element}
use Rattle.ick_stages.specs.Trees.{tree_text}
use Rattle.ick_inspect.proofs.AddLaws.{same, then}
use Rattle.ick_stages.proofs.TreeTexts.{sizes_of, smaller_element, smaller_member, subs_more}
use Rattle.ick_stages.proofs.tree.+expression.Goals as goal

pub append_element-returns : goal.append_element-returns
append_element-returns t c =
    then (then (then (then c.push.ensures c.append_name.ensures) c.push-2.ensures) c.append_subscripts.ensures)
    c.push-3.ensures

pub append_subscripts-append_tree-requires : goal.append_subscripts-append_tree-requires
append_subscripts-append_tree-requires t c = (
  smaller_member c.deref-e-items.result.now c.loop-e.e-index c.e-item.result t c.loop-e-test.true c.e-item.is
      (ap (λ l. 1 + sizes_of (trees_in l)) c.deref-e-items.ensures.value ∙ c.decreases),
  tt,
)

pub append_subscripts-loop-e-preserved : goal.append_subscripts-loop-e-preserved
append_subscripts-loop-e-preserved t c =
    same (sym (subs_more c.deref-e-items.result.now c.loop-e.e-index c.e-item.result c.loop-e-test.true c.e-item.is))
    (then c.loop-e.invariant (then c.push.ensures c.append_tree.ensures))

pub append_tree-append_element-requires : goal.append_tree-append_element-requires
append_tree-append_element-requires t c =
    (smaller_element c.in-Element.element c.args.e.now t c.in-Element.is c.decreases, tt)

pub append_tree-returns-in-Element : goal.append_tree-returns-in-Element
append_tree-returns-in-Element t c =
    same (sym (ap (λ e. tree_text (tree_of e)) c.in-Element.is ∙ ap tree_text (tree_of-element c.in-Element.element)))
    c.append_element.ensures

pub append_tree-returns-in-Binary : goal.append_tree-returns-in-Binary
append_tree-returns-in-Binary t c =
    same (sym (ap (λ e. tree_text (tree_of e)) c.in-Binary.is))
    (then (then (then (then c.push-in-Binary.ensures
    (same (ap (λ e. tree_text (tree_of e)) c.deref-in-Binary.ensures) c.append_tree-in-Binary.ensures))
    (same c.binary_sign_of.ensures c.push-in-Binary-2.ensures))
    (same (ap (λ e. tree_text (tree_of e)) c.deref-in-Binary-2.ensures) c.append_tree-in-Binary-2.ensures))
    c.push-in-Binary-3.ensures)
