use Rattle.std.proofs.Common.{ap, ◌∙◌}
use Rattle.ick_syntax.specs.Tree.{tree_of, trees_in}
use Rattle.ick_code.specs.Names.{names_of_tree, names_of_trees}
use Rattle.ick_syntax.proofs.TreeLemmas.{tree_of-element}
use Rattle.ick_code.proofs.TableLemmas.{came_more, trees-step, came_array}
use Rattle.ick_code.proofs.table.Table.+adding.Goals as goal

pub add_exprs-loop-e-preserved : goal.add_exprs-loop-e-preserved
add_exprs-loop-e-preserved t c =
    came_more (λ l. names_of_trees (trees_in l)) (λ x. names_of_tree (tree_of x)) trees-step
    c.args.self.now c.loop-e.self c.add_expr.new.self
    c.deref-e-items.result.now c.loop-e.e-index _ _ c.loop-e.invariant c.add_expr.ensures c.loop-e-test.true
    c.e-item.is

pub add_expr-returns-in-Element : goal.add_expr-returns-in-Element
add_expr-returns-in-Element t c =
    came_array c.args.self.now c.add-in-Element.new.self c.add_exprs.new.self c.in-Element.element.array
    (names_of_trees (trees_in c.in-Element.element.subs.items)) _ c.add-in-Element.ensures c.add_exprs.ensures
    (ap (λ e. names_of_tree (tree_of e)) c.in-Element.is ∙ ap names_of_tree (tree_of-element c.in-Element.element))
