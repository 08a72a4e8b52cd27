use Rattle.std.proofs.Common.{◌+◌, take}
use Rattle.ick_syntax.specs.Tree.{tree_of, trees_in}
use Rattle.ick_code.specs.Tables.{table_slots}
use Rattle.ick_code.specs.Operations.{ops_of_trees}
use Rattle.ick_code.proofs.Sizes.{size_of, sizes_of}
use Rattle.ick_code.specs.Emitted.{Emits}
use Rattle.ick_code.proofs.emit.+expression.Given as goal

abbrev pub decreases-emit_expr : goal.decreases-emit_expr
decreases-emit_expr l = size_of (tree_of l.e.now)

abbrev pub decreases-emit_fetch : goal.decreases-emit_fetch
decreases-emit_fetch l = 2 + sizes_of (trees_in l.element.now.subs.items)

abbrev pub decreases-emit_exprs : goal.decreases-emit_exprs
decreases-emit_exprs l = 1 + sizes_of (trees_in l.list.now.items)

abbrev pub invariant-emit_exprs-loop-e : goal.invariant-emit_exprs-loop-e
invariant-emit_exprs-loop-e l =
    Emits (ops_of_trees (table_slots l.table) (trees_in (take l.e-index l.e-items))) l.initial.draft l.draft
