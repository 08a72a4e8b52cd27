-- Defines the lines of a listing.
use Rattle.std.specs.Prelude.{ℕ, Bool, nat_lt, if◌then◌else◌, List, [], ◌∷◌, ◌++◌, length, take, drop}
use Rattle.std.specs.Prelude.{codes, decimal}
use Rattle.std.specs.List.{flat_map}
use Rattle.ick_bits.specs.Faults.{fault_number, three_digits}
use Rattle.ick_bits.specs.Quoted.{quoted}
use Rattle.ick_code.specs.meaning.State.{State, gave_up, faulted}
use Rattle.ick_backtrack.specs.Machine.{Program}
use Rattle.ick_backtrack.specs.Asked.{Finish, finished, at_limit}
use Rattle.ick_explorer.specs.ChoiceTexts.{choices_text}
use Rattle.ick_explorer.specs.Runs.{Stop, ends, wants, run}
use Rattle.ick_explorer.specs.declared.listing.Listed2.{Listed2}
use Rattle.ick_explorer.specs.declared.listing.Listed2.TheVariants.{More, Done}

-- the text of an end: a fault's text has the number of its kind, and the number of the statement
abbrev pub end_text : Finish → List ℕ
end_text (finished gave_up) = codes "GIVE-UP"
end_text (finished (faulted kind statement subject)) =
    codes "E" ++ three_digits (fault_number kind) ++ codes "@" ++ decimal statement
end_text at_limit = codes "LIMIT"

-- the line of a run with these choices, this end and this output
unfoldable pub line_of : List Bool → Finish → List ℕ → List ℕ
line_of c finish output =
    choices_text c ++ codes " " ++ end_text finish ++ codes " " ++ quoted output ++ codes "\n"

-- a run that only wants a choice has no line
abbrev pub compiled_at : List Bool → Stop → List ℕ → List ℕ
compiled_at c (ends finish) output = line_of c finish output
compiled_at c wants output = []

-- the line of the run with these choices
abbrev pub run_line : Program → State → ℕ → List Bool → List ℕ
run_line p s l c = compiled_at c (run p s l c).stop (run p s l c).last.output

-- the lines of these runs
abbrev pub run_lines : Program → State → ℕ → List (List Bool) → List ℕ
run_lines p s l cs = flat_map (run_line p s l) cs

-- whether a listing has more than `count` runs
abbrev pub listed_of : List (List Bool) → ℕ → Listed2
listed_of cs count = if nat_lt count (length cs) then More else Done

abbrev pub last_line : Listed2 → List ℕ
last_line More = codes "MORE\n"
last_line Done = codes "DONE\n"

-- the text of a listing: the lines of its first `count` runs, and whether it has more
abbrev pub shown : Program → State → ℕ → List (List Bool) → ℕ → List ℕ
shown p s l cs count = run_lines p s l (take count cs) ++ last_line (listed_of cs count)

-- the line after the first k of this text
abbrev pub line_next : Program → State → ℕ → List (List Bool) → List ℕ → List ℕ
line_next p s l [] last = last
line_next p s l (c ∷ cs) last = run_line p s l c

abbrev pub line_after : Program → State → ℕ → List (List Bool) → ℕ → ℕ → List ℕ
line_after p s l cs count k = line_next p s l (drop k (take count cs)) (last_line (listed_of cs count))
