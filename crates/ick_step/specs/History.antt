-- The steps that a run has made, each with its answer: the choice, or none if nothing was asked.
use Rattle.std.specs.Prelude.{Bool, true, false, List, [], ◌∷◌, Option, Some, None}
use Rattle.std.specs.List.{filter_map}
use Rattle.ick_code.specs.meaning.State.{State}
use Rattle.ick_code.specs.meaning.Move.{Asking, plain, choice, ended, ask, advance}
use Rattle.ick_backtrack.specs.Machine.{Program}

-- whether a step was told to do its statement
abbrev pub done_by : Option Bool → Bool
done_by None = false
done_by (Some b) = b

-- the state that steps with these answers lead to
abbrev pub after : Program → State → List (Option Bool) → State
after p s [] = s
after p s (a ∷ xs) = after p (advance p s (done_by a)) xs

-- whether a choice is asked
abbrev pub asks_choice : Asking → Bool
asks_choice plain = false
asks_choice (choice chance) = true
asks_choice (ended end) = false

-- a choice is answered exactly if it is asked, and the run hasn't ended
abbrev pub Answers : Asking → Option Bool → Type 0
Answers plain None = Unit {0}
Answers plain (Some b) = ⊥
Answers (choice chance) None = ⊥
Answers (choice chance) (Some b) = Unit {0}
Answers (ended end) a = ⊥

-- the answers of the first steps of a run
abbrev pub IsHistory : Program → State → List (Option Bool) → Type 0
IsHistory p s [] = Unit {0}
IsHistory p s (a ∷ xs) = Answers (ask p s) a × IsHistory p (advance p s (done_by a)) xs

-- the choices among the answers
abbrev pub choices_in : List (Option Bool) → List Bool
choices_in answers = filter_map (λ a. a) answers
