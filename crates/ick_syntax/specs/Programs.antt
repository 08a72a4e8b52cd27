-- The statements of a program, and their trees.
use Rattle.std.specs.Prelude.{List}
use Rattle.ick_syntax.specs.declared.programs.Program.{Program}
use Rattle.ick_syntax.specs.declared.statements.Statement.{Statement}
use Rattle.ick_syntax.specs.StatementTree.{StatementTree, statement_trees}

abbrev pub statements_of : Program → List Statement
statements_of p = p.statements.items

abbrev pub trees_of : Program → List StatementTree
trees_of p = statement_trees (statements_of p)
