-- Worked rows, computed from the definitions: what is shown of variables, states and statements.
use Rattle.std.proofs.Common.{◌≡◌, true, false, Some, None, List, [], ◌∷◌, refl}
use Rattle.std.specs.Prelude.{codes}
use Rattle.std.specs.Fmt.{digits}
use Rattle.ick_bits.specs.Quoted.{quoted, escaped}
use Rattle.ick_syntax.specs.declared.tree.Name.{Name}
use Rattle.ick_syntax.specs.declared.tree.NameKind.{NameKind}
use Rattle.ick_syntax.specs.declared.tree.NameKind.TheVariants.{Onespot, Twospot, Tail, Hybrid}
use Rattle.ick_syntax.specs.StatementTree.{StatementTree}
use Rattle.ick_syntax.specs.BodyTree.{give_up}
use Rattle.ick_code.specs.meaning.State.{State, gave_up, no_array}
use Rattle.ick_code.proofs.RowWords.{plainly}
use Rattle.ick_inspect.specs.declared.positions.LineColumn.{LineColumn}
use Rattle.ick_inspect.specs.Text.{numbers_text}
use Rattle.ick_inspect.specs.Names.{array_text, dimensions_text, elements_text, marks_text, name_text, variable_text}
use Rattle.ick_inspect.specs.Summary.{abstained_text, counts_text, end_text, stack_text, state_text, statements_text}
use Rattle.ick_inspect.specs.Summary.{variables_text}
use Rattle.ick_inspect.specs.Positions.{position_in}
use Rattle.ick_inspect.specs.Statements.{list_text, listed_text, position_text, statement_text}

first : State
first = record {
  place = 1;
  returns = [];
  scalars = λ _. 0;
  arrays = λ _. no_array;
  stashed_scalars = λ _. [];
  stashed_arrays = λ _. [];
  ignored = λ _. false;
  abstained = λ _. false;
  input = codes "SIX\n";
  output = [];
  last = 0;
  lastin = 0;
  end = None;
}

first_name : NameKind → Name
first_name kind = record { kind = kind; number = 1 }

a_number : variable_text (record first { scalars = λ _. 70000 }) (first_name Twospot) ≡ codes ":1 = 70000"
unfolding variable_text name_text marks_text digits first first_name
a_number = refl

an_ignored_number :
    variable_text (record first { scalars = λ _. 7; ignored = λ _. true; stashed_scalars = λ _. 1 ∷ 2 ∷ [] })
    (first_name Onespot) ≡ codes ".1 = 7 (ignored, 2 stashed)"
unfolding variable_text name_text marks_text digits first first_name
an_ignored_number = refl

an_array :
    variable_text (record first {
      arrays = λ _. record { dimensions = 2 ∷ 3 ∷ []; elements = 1 ∷ 2 ∷ 3 ∷ 4 ∷ 5 ∷ 6 ∷ [] };
      stashed_arrays = λ _. record { dimensions = []; elements = [] } ∷ [];
    }) (first_name Tail) ≡ codes ",1 = 2x3: 1 2 3 4 5 6 (1 stashed)"
unfolding variable_text name_text array_text dimensions_text elements_text numbers_text marks_text digits first first_name
an_array = refl

no_dimensions : variable_text (record first { ignored = λ _. true }) (first_name Hybrid)
    ≡ codes ";1 = no dimensions (ignored)"
unfolding variable_text name_text array_text dimensions_text elements_text numbers_text marks_text digits first first_name
no_dimensions = refl

stack : stack_text (record first { returns = 5 ∷ 12 ∷ [] }) ≡ codes "NEXT stack: 5 12\n"
unfolding stack_text statements_text numbers_text digits first
stack = refl

no_stack : stack_text first ≡ codes "NEXT stack: none\n"
unfolding stack_text statements_text numbers_text digits first
no_stack = refl

two : List StatementTree
two =
    record (plainly give_up) { text = codes "PLEASE\nGIVE UP" }
    ∷ record (plainly give_up) { text = codes "DO GIVE UP" } ∷ []

at_end : state_text two (record first { place = 2; abstained = λ n. true; end = Some gave_up })
    ≡ codes "next statement: 2 of 2\nNEXT stack: none\nabstained from: 1 2\ninput left: 4\noutput: 0\nended: GIVE UP\n"
unfolding state_text stack_text statements_text abstained_text counts_text end_text variables_text numbers_text digits first two
at_end = refl

begins : position_in (codes "  DO GIVE UP\n DO GIVE UP") 2 ≡ record { line = 1; column = 3 }
unfolding position_in
begins = refl

begins_later : position_in (codes "PLEASE\nGIVE UP\n\n DO GIVE UP") 17 ≡ record { line = 4; column = 2 }
unfolding position_in
begins_later = refl

places : List LineColumn
places = record { line = 1; column = 1 } ∷ record { line = 4; column = 2 } ∷ []

around : list_text two places 2 5 ≡ codes "  1 1:1 \"PLEASE\\nGIVE UP\"\n> 2 4:2 \"DO GIVE UP\"\n"
unfolding list_text listed_text statement_text position_text quoted escaped digits two places
around = refl

the_next_alone : list_text two places 2 0 ≡ codes "> 2 4:2 \"DO GIVE UP\"\n"
unfolding list_text listed_text statement_text position_text quoted escaped digits two places
the_next_alone = refl

-- past the last statement none is marked
past_the_end : list_text two places 3 1 ≡ codes "  2 4:2 \"DO GIVE UP\"\n"
unfolding list_text listed_text statement_text position_text quoted escaped digits two places
past_the_end = refl
