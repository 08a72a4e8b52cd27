-- What a session writes.
use Rattle.std.specs.Prelude.{◌≡◌, ℕ, ◌==◌, ◌+◌, ◌^◌, ◌≤◌, Bool, true, false, List, [], ◌∷◌, ◌++◌, codes, length, take}
use Rattle.std.specs.Prelude.{if◌then◌else◌}
use Rattle.ick_job.specs.JobEnd.{message_text}
use Rattle.ick_job.specs.declared.job_end.JobEnd.{JobEnd}
use Rattle.ick_job.specs.declared.job_end.JobEnd.TheVariants.{Answered, FileNotRead, InputTooLong}
use Rattle.ick_inspect.specs.declared.positions.LineColumn.{LineColumn}
use Rattle.ick_step.specs.Seen.{Seen}
use Rattle.ick_session.specs.Lines.{AnswersLine}
use Rattle.ick_session.specs.Session.{Settings}
use Rattle.ick_session.specs.Travel.{where_text}

-- the lines of a text, without their ends; what is behind the last line end is a line unless it is empty
abbrev pub begun_by : ℕ → List (List ℕ) → List (List ℕ)
begun_by b [] = (b ∷ []) ∷ []
begun_by b (line ∷ lines) = (b ∷ line) ∷ lines

abbrev pub lines_of : List ℕ → List (List ℕ)
lines_of [] = []
lines_of (b ∷ text) = if b == 10 then [] ∷ lines_of text else begun_by b (lines_of text)

-- the lines of a session, and whether they are typed at a terminal
pub record Lines : Type 0 where
  pub terminal : Bool
  pub all : List (List ℕ)

abbrev pub typed : (terminal : Bool) → List ℕ → Lines
typed terminal text = record { terminal = terminal; all = lines_of text }

-- the line that is answered: at a terminal an empty line repeats the last one
abbrev pub meant : (terminal : Bool) → (last line : List ℕ) → List ℕ
meant false last line = line
meant true last [] = last
meant true last (b ∷ line) = b ∷ line

-- the last line that isn't empty; if all are, an empty one
abbrev pub last_said : List (List ℕ) → List ℕ
last_said [] = []
last_said (line ∷ lines) = meant true line (last_said lines)

-- what is written before a line is read
abbrev pub prompt : (terminal : Bool) → List ℕ
prompt false = []
prompt true = codes "(ick) "

-- Lines that all lead on, and their answers joined. The prompt for the next line is behind each answer.
pub data Talks (terminal : Bool) (f : Settings) (positions : List LineColumn) : (s : Seen) → (lines : List (List ℕ)) →
    (g : Settings) → (t : Seen) → (text : List ℕ) → Type 0 where
  no_line : (s : Seen) → Talks terminal f positions s [] f s []
  one_more : (g h : Settings) (s t u : Seen) (lines : List (List ℕ)) (line text more : List ℕ) →
      Talks terminal f positions s lines g t text →
      AnswersLine g positions t (meant terminal (last_said lines) line) h u more true →
      Talks terminal f positions s (lines ++ line ∷ []) h u (text ++ (more ++ prompt terminal))

-- the output after these lines: where the run begins, the prompt for the first line, and the answers
abbrev pub output_text : (terminal : Bool) → Settings → List LineColumn → Seen → List ℕ → List ℕ
output_text terminal f positions s text = (where_text f positions s ++ prompt terminal) ++ text

-- The session was over: all lines were answered, or those before the first `quit`. The output was written behind what
-- was written before.
pub data IsOver (f : Settings) (positions : List LineColumn) (s : Seen) (lines : Lines) (before after : List ℕ)
    : Type 0 where
  at_end : (g : Settings) (t : Seen) (text : List ℕ) → Talks lines.terminal f positions s lines.all g t text →
      after ≡ before ++ output_text lines.terminal f positions s text → IsOver f positions s lines before after
  at_quit : (done left : List (List ℕ)) (line : List ℕ) (g h : Settings) (t u : Seen) (text last : List ℕ) →
      lines.all ≡ done ++ line ∷ left → Talks lines.terminal f positions s done g t text →
      AnswersLine g positions t (meant lines.terminal (last_said done) line) h u last false →
      after ≡ before ++ output_text lines.terminal f positions s text → IsOver f positions s lines before after

-- something failed: a prefix of the answers to the first lines was written
pub record IsCut (f : Settings) (positions : List LineColumn) (s : Seen) (lines : Lines) (before after : List ℕ)
    : Type 0 where
  pub done : List (List ℕ)
  pub left : List (List ℕ)
  pub lines_are : lines.all ≡ done ++ left
  pub set : Settings
  pub last : Seen
  pub text : List ℕ
  pub talks : Talks lines.terminal f positions s done set last text
  pub count : ℕ
  pub written : after ≡ before ++ take count (output_text lines.terminal f positions s text)

-- a job's end by a failure of reader, writer or memory
abbrev pub IsFailure : JobEnd → Type 0
IsFailure (Answered status message) = ⊥
IsFailure FileNotRead = ⊥
IsFailure InputTooLong = ⊥
IsFailure _ = Unit {0}

-- what a session writes, by how it ends; its input is too long if it has 2^64 - 1 lines
abbrev pub Writes : Settings → List LineColumn → Seen → (lines : Lines) → JobEnd →
    (before after : List ℕ) → Type 0
Writes f positions s lines (Answered status message) before after =
    (status ≡ 0) × (message_text message ≡ []) × IsOver f positions s lines before after
Writes f positions s lines FileNotRead before after = ⊥
Writes f positions s lines InputTooLong before after =
    (2 ^ 64 ≤ length lines.all + 1) × IsCut f positions s lines before after
Writes f positions s lines _ before after = IsCut f positions s lines before after
