-- How a place in a run and its end are shown.
use Rattle.std.specs.Prelude.{ℕ, nat_lt, Bool, List, [], ◌++◌, length, codes, decimal, if◌then◌else◌}
use Rattle.ick_bits.specs.Faults.{message_of}
use Rattle.ick_code.specs.meaning.State.{State, gave_up, faulted}
use Rattle.ick_code.specs.meaning.Move.{Asking, plain, choice, ended, ask}
use Rattle.ick_backtrack.specs.Asked.{Finish, finished, at_limit}
use Rattle.ick_backtrack.specs.Machine.{Program}
use Rattle.ick_inspect.specs.Statements.{statement_text}
use Rattle.ick_inspect.specs.Summary.{stack_text}
use Rattle.ick_inspect.specs.declared.positions.LineColumn.{LineColumn}

-- a statement, by its number, or that there is none of this number
abbrev pub past_text : ℕ → List ℕ
past_text n = decimal n ++ codes " past the last statement"

abbrev pub met_text : Program → List LineColumn → ℕ → List ℕ
met_text p positions n =
    if nat_lt n 1 then past_text n else if nat_lt (length p) n then past_text n else statement_text p positions n

-- the line of a run that has made so many steps
abbrev pub place_text : Program → List LineColumn → ℕ → State → List ℕ
place_text p positions steps s =
    decimal steps ++ codes " " ++ met_text p positions s.place ++ codes "\n"

abbrev pub asked_text : ℕ → List ℕ
asked_text chance = codes "  asks %" ++ decimal chance ++ codes "\n"

-- which choice was answered there
abbrev pub answered_text : (chance : ℕ) → (done : Bool) → List ℕ
answered_text chance done =
    codes "  asks %" ++ decimal chance ++ (if done then codes ": 1\n" else codes ": 0\n")

-- how a run has ended
abbrev pub over_text : Program → List LineColumn → Finish → State → List ℕ
over_text p positions (finished gave_up) s = codes "ended: GIVE UP\n"
over_text p positions (finished (faulted kind n subject)) s =
    codes "ended: " ++ message_of kind n subject ++ codes "  at " ++ met_text p positions n ++ codes "\n  "
    ++ stack_text s
over_text p positions at_limit s = []

-- where a run is that has made so many steps, by what is asked there
abbrev pub asking_text : Program → List LineColumn → ℕ → State → Asking → List ℕ
asking_text p positions steps s plain = place_text p positions steps s
asking_text p positions steps s (choice chance) = place_text p positions steps s ++ asked_text chance
asking_text p positions steps s (ended end) = decimal steps ++ codes " " ++ over_text p positions (finished end) s

abbrev pub here_text : Program → List LineColumn → ℕ → State → List ℕ
here_text p positions steps s = asking_text p positions steps s (ask p s)
