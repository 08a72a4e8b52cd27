-- The lines of a trace, how it ends, and why it is cut short.
use Rattle.std.specs.Prelude.{◌≡◌, ◌⊎◌, ℕ, ◌==◌, Bool, false, List, [], ◌++◌, codes, decimal, get_or, length}
use Rattle.std.specs.Prelude.{if◌then◌else◌, Option, Some, None}
use Rattle.std.specs.List.{flat_map, range_with_len}
use Rattle.ick_bits.specs.Faults.{message_of}
use Rattle.ick_code.specs.declared.code.Code.{Code}
use Rattle.ick_code.specs.meaning.Move.{Asking, plain, choice, ended, ask}
use Rattle.ick_code.specs.meaning.State.{State, gave_up, faulted}
use Rattle.ick_backtrack.specs.Asked.{Finish, finished, at_limit}
use Rattle.ick_backtrack.specs.Machine.{Program}
use Rattle.ick_explorer.specs.declared.errors.RunsError.{RunsError}
use Rattle.ick_explorer.specs.declared.errors.RunsError.TheVariants.{NoMemory, Write}
use Rattle.ick_inspect.specs.declared.positions.LineColumn.{LineColumn}
use Rattle.ick_job.specs.Answer.{Answer}
use Rattle.ick_step.specs.History.{done_by}
use Rattle.ick_step.specs.Seen.{Seen, present}
use Rattle.ick_session.specs.Changes.{step_text}
use Rattle.ick_session.specs.Shown.{answered_text, here_text, place_text}
use Rattle.ick_session.specs.Session.{Settings}
use Rattle.ick_session.specs.Travel.{AreGiven, GoesOn, StopsFirst, state_after}

-- a run before its first step
abbrev pub begin : Settings → Seen
begin f = record { program = f.program; start = f.start; answers = []; work = 0 }

-- a run has made steps within its limit, each with the choice that it was given
pub record IsRunning (f : Settings) (t : Seen) : Type 0 where
  pub on : GoesOn f.limit (begin f) t
  pub given : AreGiven f.given (begin f) t

-- .. and stops there: it has ended, is at its limit, or wants a choice that isn't given
abbrev pub nowhere : State → Bool
nowhere s = false

abbrev pub IsRun : Settings → Seen → Type 0
IsRun f t = StopsFirst f.given nowhere f.limit (begin f) t

-- which choice a step was given, if one was asked
abbrev pub given_line : Option Bool → Asking → List ℕ
given_line None asking = []
given_line (Some done) (choice chance) = answered_text chance done
given_line (Some done) _ = []

-- the lines of a step that has this answer: the statement that it met, the choice, and what the step changed
abbrev pub step_lines : Program → Code → List LineColumn → (steps : ℕ) → State → Option Bool → List ℕ
step_lines p code positions steps s answer =
    place_text p positions steps s ++ given_line answer (ask p s) ++ step_text p code s (done_by answer)

-- the lines of all its steps
abbrev pub steps_text : Code → List LineColumn → Seen → List ℕ
steps_text code positions t = flat_map
    (λ k. step_lines t.program code positions k (state_after t k) (get_or t.answers k None))
    (range_with_len 0 (length t.answers))

-- .. and where it stops
abbrev pub trace_text : Code → List LineColumn → Seen → List ℕ
trace_text code positions t =
    steps_text code positions t ++ here_text t.program positions (length t.answers) (present t)

-- how a run stops by what is asked there: it ends, or it is at its limit, or it wants a choice
abbrev pub stop_at : (limit steps : ℕ) → Asking → Option Finish
stop_at limit steps plain = Some at_limit
stop_at limit steps (choice chance) = if steps == limit then Some at_limit else None
stop_at limit steps (ended ending) = Some (finished ending)

-- the error text and the status
abbrev pub stop_text : Option Finish → (steps : ℕ) → List ℕ
stop_text None steps = codes "CHOICE WANTED AFTER " ++ decimal steps ++ codes " STEPS\n"
stop_text (Some at_limit) steps = codes "LIMIT REACHED AFTER " ++ decimal steps ++ codes " STEPS\n"
stop_text (Some (finished gave_up)) steps = []
stop_text (Some (finished (faulted kind statement subject))) steps = message_of kind statement subject

abbrev pub stop_status : Option Finish → ℕ
stop_status None = 3
stop_status (Some at_limit) = 3
stop_status (Some (finished gave_up)) = 0
stop_status (Some (finished (faulted kind statement subject))) = 1

-- the answer of a trace
abbrev pub trace_answer : (limit : ℕ) → Code → List LineColumn → Seen → Answer
trace_answer limit code positions t =
    let stop = stop_at limit (length t.answers) (ask t.program (present t)) in
    record {
      output = trace_text code positions t;
      errors = stop_text stop (length t.answers);
      status = stop_status stop;
    }

-- memory ran out, or the writer failed
abbrev pub IsTraceError : RunsError → Type 0
IsTraceError e = (e ≡ NoMemory) ⊎ (e ≡ Write)
