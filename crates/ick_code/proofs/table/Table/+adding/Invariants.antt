use Rattle.std.proofs.Common.{take}
use Rattle.ick_syntax.specs.Tree.{trees_in}
use Rattle.ick_code.specs.Names.{names_of_trees}
use Rattle.ick_code.specs.Tables.{Adds}
use Rattle.ick_code.proofs.table.Table.+adding.Given as goal

abbrev pub invariant-add_exprs-loop-e : goal.invariant-add_exprs-loop-e
invariant-add_exprs-loop-e l =
    Adds (names_of_trees (trees_in (take l.e-index l.e-items))) l.initial.self l.self
