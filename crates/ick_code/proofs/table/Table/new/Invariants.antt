use Rattle.std.proofs.Common.{take, map}
use Rattle.ick_syntax.specs.StatementTree.{statement_tree_of}
use Rattle.ick_code.specs.Names.{names_of}
use Rattle.ick_code.specs.Tables.{Adds}
use Rattle.ick_code.proofs.table.Table.new.Given as goal

abbrev pub invariant-loop-statement : goal.invariant-loop-statement
invariant-loop-statement l =
    Adds (names_of (map statement_tree_of (take l.statement-index l.statements))) l.initial.table l.table
