-- Statements as trees, whose numbers may be of any size, and the tree of a statement of the program.
use Rattle.std.specs.Prelude.{◌≡◌, ℕ, ◌+◌, Bool, List, map, slice_get, count_by, Option, Some}
use Rattle.ick_syntax.specs.declared.statements.Statement.{Statement}
use Rattle.ick_syntax.specs.BodyTree.{BodyTree, body_tree_of}

-- a statement; its body is None if it is unrecognised
pub record StatementTree : Type 0 where
  pub label : Option ℕ
  pub polite : Bool
  pub abstained : Bool
  pub chance : ℕ
  pub body : Option BodyTree
  pub text : List ℕ

abbrev pub statement_tree_of : Statement → StatementTree
statement_tree_of x = record {
  label = x.label;
  polite = x.polite;
  abstained = x.abstained;
  chance = x.chance;
  body = body_tree_of x.body;
  text = x.text.now;
}

abbrev pub statement_trees : List Statement → List StatementTree
statement_trees xs = map statement_tree_of xs

-- statements are numbered from 1
abbrev pub AreNumbered : List Statement → Type 0
AreNumbered xs = (k : ℕ) (x : Statement) → slice_get xs k ≡ Some x → x.number ≡ k + 1

abbrev pub polite_in : List StatementTree → ℕ
polite_in trees = count_by (λ t. t.polite) trees

-- the greatest number of statements of a program, each of which takes at least two bytes of the source
abbrev pub most_statements : ℕ
most_statements = 524288
