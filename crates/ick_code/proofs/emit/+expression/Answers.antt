use Rattle.std.proofs.Common.{◌+◌, ap, ◌∙◌, sym, subst, rules, arith}
use Rattle.ick_syntax.specs.Tree.{tree_of, trees_in}
use Rattle.ick_syntax.specs.NameKinds.{are_kinded}
use Rattle.ick_code.specs.Tables.{table_slots}
use Rattle.ick_code.specs.Operations.{ops_of_tree}
use Rattle.ick_code.specs.Emitted.{Emits}
use Rattle.ick_syntax.proofs.TreeLemmas.{tree_of-element}
use Rattle.ick_code.proofs.Trees.{kinded_at, kinded_element, count_is, few_fits}
use Rattle.ick_code.proofs.Sizes.{sizes_of, smaller_element, smaller_member}
use Rattle.ick_code.proofs.EmitLemmas.{emitted_more}
use Rattle.ick_code.proofs.emit.+expression.Goals as goal

pub emit_exprs-loop-e-preserved : goal.emit_exprs-loop-e-preserved
emit_exprs-loop-e-preserved t c =
    emitted_more (table_slots c.args.table.now) c.args.draft.now c.loop-e.draft c.emit_expr.new.draft
    c.deref-e-items.result.now c.loop-e.e-index _ c.loop-e.invariant c.emit_expr.ensures
    c.loop-e-test.true c.e-item.is

pub emit_expr-returns-in-Element : goal.emit_expr-returns-in-Element
emit_expr-returns-in-Element t c =
    subst (λ o. Emits o c.args.draft.now c.emit_fetch.new.draft)
    (sym (ap (λ e. ops_of_tree (table_slots c.args.table.now) (tree_of e)) c.in-Element.is
    ∙ ap (ops_of_tree (table_slots c.args.table.now)) (tree_of-element c.in-Element.element))) c.emit_fetch.ensures

pub emit_exprs-overflow_cast-count : goal.emit_exprs-overflow_cast-count
emit_exprs-overflow_cast-count t c = let few =
    few_fits c.args.list.now.items c.len-count.result (search rules) c.requires.few in omega (arith, few)

pub emit_exprs-returns-clause-count : goal.emit_exprs-returns-clause-count
emit_exprs-returns-clause-count t c = count_is c.args.list.now.items c.len-count.result (search rules)

pub emit_expr-emit_fetch-requires : goal.emit_expr-emit_fetch-requires
emit_expr-emit_fetch-requires t c =
    let kinded = kinded_element c.in-Element.element c.args.e.now c.in-Element.is c.requires in
    (smaller_element c.in-Element.element c.args.e.now t c.in-Element.is c.decreases, (kinded.0, kinded.1))

pub emit_exprs-emit_expr-requires : goal.emit_exprs-emit_expr-requires
emit_exprs-emit_expr-requires t c =
    let es = c.deref-e-items.result.now in
    let is = c.deref-e-items.ensures.value in
    let kinded =
    kinded_at es c.loop-e.e-index c.e-item.result (ap (λ l. are_kinded (trees_in l)) is ∙ c.requires.kinded)
    c.loop-e-test.true c.e-item.is in (
      smaller_member es c.loop-e.e-index c.e-item.result t c.loop-e-test.true c.e-item.is
          (ap (λ l. 1 + sizes_of (trees_in l)) is ∙ c.decreases),
      kinded,
    )
