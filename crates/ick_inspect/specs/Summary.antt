-- How the NEXT stack and a whole state are shown.
use Rattle.std.specs.Prelude.{ℕ, List, [], ◌∷◌, ◌++◌, length, codes, decimal, filter, Option, Some, None}
use Rattle.std.specs.List.{flat_map, range_with_len}
use Rattle.ick_bits.specs.Faults.{message_of}
use Rattle.ick_syntax.specs.declared.tree.Name.{Name}
use Rattle.ick_syntax.specs.StatementTree.{StatementTree}
use Rattle.ick_code.specs.meaning.State.{State, Ending, gave_up, faulted}
use Rattle.ick_code.specs.Names.{slots_of}
use Rattle.ick_inspect.specs.Names.{variable_text}
use Rattle.ick_inspect.specs.Text.{numbers_text}

-- the numbers of statements
unfoldable pub statements_text : List ℕ → List ℕ
statements_text [] = codes " none"
statements_text (first ∷ others) = numbers_text (codes " ") (first ∷ others)

-- the return addresses, the newest first
unfoldable pub stack_text : State → List ℕ
stack_text s = codes "NEXT stack:" ++ statements_text s.returns ++ codes "\n"

-- the statements abstained from
abbrev pub abstained_in : List StatementTree → State → List ℕ
abstained_in program s = filter s.abstained (range_with_len 1 (length program))

unfoldable pub abstained_text : List StatementTree → State → List ℕ
abstained_text program s = codes "abstained from:" ++ statements_text (abstained_in program s) ++ codes "\n"

-- a line for each name, scalars first
unfoldable pub variables_text : List Name → State → List ℕ
variables_text names s = flat_map (λ name. variable_text s name ++ codes "\n") names

unfoldable pub end_text : Option Ending → List ℕ
end_text None = []
end_text (Some gave_up) = codes "ended: GIVE UP\n"
end_text (Some (faulted kind statement subject)) = codes "ended: " ++ message_of kind statement subject

unfoldable pub counts_text : State → List ℕ
counts_text s =
    codes "input left: " ++ decimal (length s.input) ++ codes "\noutput: " ++ decimal (length s.output) ++ codes "\n"

unfoldable pub state_text : List StatementTree → State → List ℕ
state_text program s =
    codes "next statement: " ++ decimal s.place ++ codes " of " ++ decimal (length program) ++ codes "\n"
    ++ stack_text s
    ++ variables_text (slots_of program).scalars s
    ++ variables_text (slots_of program).arrays s
    ++ abstained_text program s
    ++ counts_text s
    ++ end_text s.end
