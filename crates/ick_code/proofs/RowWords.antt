-- Words that worked rows are said in: programs, and what of a run is looked at.
use Rattle.std.specs.Prelude.{ℕ, Bool, true, false, List, [], ◌∷◌, map, Option, Some, None, replicate}
use Rattle.ick_syntax.specs.declared.tree.Name.{Name}
use Rattle.ick_syntax.specs.declared.tree.NameKind.TheVariants.{Onespot, Twospot, Tail, Hybrid}
use Rattle.ick_syntax.specs.Tree.{Tree, element}
use Rattle.ick_syntax.specs.BodyTree.{single, BodyTree, write_in, read_out}
use Rattle.ick_syntax.specs.StatementTree.{StatementTree}
use Rattle.ick_code.specs.meaning.State.{State, Ending}
use Rattle.ick_code.specs.meaning.Do.{trees_from}
use Rattle.ick_code.specs.meaning.Move.{advance, first_state}

-- a statement that is sure to be done, without a label and with one
abbrev pub plainly : BodyTree → StatementTree
plainly body = record { label = None; polite = false; abstained = false; chance = 100; body = Some body; text = [] }

abbrev pub labelled : ℕ → BodyTree → StatementTree
labelled n body = record (plainly body) { label = Some n }

-- WRITE IN and READ OUT of scalars, elements and meshes
abbrev pub reads : List Tree → BodyTree
reads targets = write_in (map single targets)

abbrev pub prints : List Tree → BodyTree
prints items = read_out (map single items)

-- names
abbrev pub one : Name
one = record { kind = Onespot; number = 1 }

abbrev pub two : Name
two = record { kind = Onespot; number = 2 }

abbrev pub three : Name
three = record { kind = Onespot; number = 3 }

abbrev pub double : Name
double = record { kind = Twospot; number = 1 }

abbrev pub tail : Name
tail = record { kind = Tail; number = 1 }

abbrev pub other_tail : Name
other_tail = record { kind = Tail; number = 2 }

abbrev pub hybrid : Name
hybrid = record { kind = Hybrid; number = 1 }

-- an element of an array
abbrev pub at : Name → List Tree → Tree
at array subs = element array (trees_from subs)

-- what is looked at: the output, the input left and the end
pub record Seen : Type 0 where
  pub output : List ℕ
  pub input : List ℕ
  pub end : Option Ending

-- the state after steps with these choices
abbrev pub after : List StatementTree → List Bool → State → State
after program [] s = s
after program (chosen ∷ choices) s = after program choices (advance program s chosen)

abbrev pub look : State → Seen
look s = record { output = s.output; input = s.input; end = s.end }

abbrev pub seen_after : List StatementTree → List ℕ → List Bool → Seen
seen_after program input choices = look (after program choices (first_state program input))

-- after so many steps, where each choice does the statement
abbrev pub seen : List StatementTree → List ℕ → ℕ → Seen
seen program input n = seen_after program input (replicate n true)
