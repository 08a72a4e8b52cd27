use Rattle.std.proofs.Common.{map, ap, ◌∙◌}
use Rattle.ick_syntax.specs.Programs.{trees_of}
use Rattle.ick_syntax.specs.StatementTree.{statement_tree_of}
use Rattle.ick_code.specs.Names.{names_of}
use Rattle.ick_code.specs.Tables.{with_names, no_slots}
use Rattle.ick_code.proofs.Slotted.{with_names-slots_of}
use Rattle.ick_code.proofs.compiler.compile.Goals as goal

pub compile_all-requires-clause-slots : goal.compile_all-requires-clause-slots
compile_all-requires-clause-slots c =
    c.in_ok-table.ensures
    ∙ ap (λ l. with_names no_slots (names_of (map statement_tree_of l))) c.statements.ensures
    ∙ with_names-slots_of (trees_of c.args.program.now)
