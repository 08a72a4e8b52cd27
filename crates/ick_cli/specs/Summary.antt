-- The line of a program that is checked.
use Rattle.std.specs.Prelude.{ℕ, List, ◌++◌, codes, decimal, length}
use Rattle.ick_syntax.specs.StatementTree.{StatementTree, polite_in}

-- how many statements it has, and how many of them are polite
abbrev pub summary : List StatementTree → List ℕ
summary trees = decimal (length trees) ++ codes " STATEMENTS, " ++ decimal (polite_in trees) ++ codes " POLITE\n"
