use Rattle.std.proofs.Common.{◌≡◌, map, take}
use Rattle.ick_syntax.specs.StatementTree.{statement_tree_of}
use Rattle.ick_code.specs.Code.{kinds_of}
use Rattle.ick_code.specs.Tables.{table_slots}
use Rattle.ick_code.specs.Labels.{place_in}
use Rattle.ick_code.proofs.CompiledStatements.{CompiledSoFar}
use Rattle.ick_code.proofs.compiler.compile_all.Given as goal

abbrev pub invariant-loop-statement : goal.invariant-loop-statement
invariant-loop-statement l = record {
  so_far : CompiledSoFar (place_in l.labels) (table_slots l.table) l.statements l.draft.ops.items
      l.compiled.items l.operands l.statement-index;
  kinds_are : l.kinds.items ≡ kinds_of (map statement_tree_of (take l.statement-index l.statements));
}
