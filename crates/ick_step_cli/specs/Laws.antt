-- What holds of each job, of each session, and of each traced run.
use Rattle.std.specs.Prelude.{◌≡◌, ◌⊎◌, ◌<◌, ◌+◌, ◌++◌, ◌^◌, ℕ, Bool, true, List, [], ◌∷◌, Option, codes}
use Rattle.std.specs.Prelude.{length}
use Rattle.ick_code.specs.declared.code.Code.{Code}
use Rattle.ick_inspect.specs.declared.positions.LineColumn.{LineColumn}
use Rattle.ick_job.specs.Answer.{Answer}
use Rattle.ick_step.specs.Seen.{Seen}
use Rattle.ick_session.specs.Lines.{AnswersLine, short_text}
use Rattle.ick_session.specs.Session.{Settings}
use Rattle.ick_step_cli.specs.Job.{Wanted}
use Rattle.ick_step_cli.specs.Talk.{Lines, last_said, meant, prompt}
use Rattle.ick_step_cli.specs.Tool.{IsStepAnswer}
use Rattle.ick_step_cli.specs.Trace.{IsRun, trace_answer}

-- The choices and the limit of a run decide where it stops, and so its trace by the code that it runs.
abbrev pub OneTrace : Type 0
OneTrace = (f : Settings) (code : Code) (positions : List LineColumn) →
    (t : Seen) × IsRun f t
    × ((u : Seen) → IsRun f u → trace_answer f.limit code positions u ≡ trace_answer f.limit code positions t)

-- two answers end alike
pub record EndsAlike (a b : Answer) : Type 0 where
  pub errors : b.errors ≡ a.errors
  pub status : b.status ≡ a.status

-- A job has one error text and one status at most, unless its lines are too many for any session. Its output may
-- differ: a session goes on although memory runs out for a command, and the answer says so; and a trace has the names
-- that a step changed in the order of the code.
abbrev pub OneEnd : Type 0
OneEnd = (w : Wanted) (input : Option (List ℕ)) (lines : Lines) (source : Option (List ℕ)) (a b : Answer) →
    length lines.all + 1 < 2 ^ 64 → IsStepAnswer w input lines source a → IsStepAnswer w input lines source b →
    EndsAlike a b

-- the answer says that memory ran out for a command, or that the count of work has no room for it
abbrev pub IsLack : Seen → List ℕ → Type 0
IsLack t text = ((moves : Bool) × (text ≡ short_text moves t)) ⊎ (text ≡ codes "too many steps were made\n")

-- lines that all lead on, each with an answer that is no such one, and their answers joined, each with the next prompt
pub data TalksInFull (terminal : Bool) (f : Settings) (positions : List LineColumn) : (s : Seen) →
    (lines : List (List ℕ)) → (g : Settings) → (t : Seen) → (text : List ℕ) → Type 0 where
  no_line : (s : Seen) → TalksInFull terminal f positions s [] f s []
  one_more : (g h : Settings) (s t u : Seen) (lines : List (List ℕ)) (line text more : List ℕ) →
      TalksInFull terminal f positions s lines g t text →
      AnswersLine g positions t (meant terminal (last_said lines) line) h u more true → ¬ IsLack u more →
      TalksInFull terminal f positions s (lines ++ line ∷ []) h u (text ++ (more ++ prompt terminal))

-- two states of a session are the same but for the count of work, of which is only said how much it grows at most
pub record SameSeen (s t : Seen) : Type 0 where
  pub program : t.program ≡ s.program
  pub start : t.start ≡ s.start
  pub answers : t.answers ≡ s.answers

-- two sessions have come to the same
pub record ComeToOne (g h : Settings) (t u : Seen) (text more : List ℕ) : Type 0 where
  pub settings : h ≡ g
  pub seen : SameSeen t u
  pub text_is : more ≡ text

-- The lines of a session have one answer at most, unless memory or the count of work lacks for one of them. The first
-- `quit` among the lines ends each session, so the lines decide which of them are answered.
abbrev pub OneSession : Type 0
OneSession = (terminal : Bool) (f : Settings) (positions : List LineColumn) (s : Seen) (lines : List (List ℕ))
    (g h : Settings) (t u : Seen) (text more : List ℕ) → TalksInFull terminal f positions s lines g t text →
    TalksInFull terminal f positions s lines h u more → ComeToOne g h t u text more
