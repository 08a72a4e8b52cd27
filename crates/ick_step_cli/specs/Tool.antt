-- What is answered to a job, by its source, its input and its lines.
use Rattle.std.specs.Prelude.{◌≡◌, ◌<◌, ◌≤◌, ◌+◌, ◌==◌, ◌^◌, ◌++◌, ℕ, Bool, true, false, List, [], Option, Some}
use Rattle.std.specs.Prelude.{None, if◌then◌else◌, length, map, take}
use Rattle.clap.specs.Words.{Text}
use Rattle.ick_bits.specs.Faults.{message_of}
use Rattle.ick_bits.specs.declared.faults.FaultKind.{FaultKind}
use Rattle.ick_source.specs.Refusals.{Compiles, IsRefused, longest}
use Rattle.ick_code.specs.Compiled.{IsCompiled}
use Rattle.ick_code.specs.declared.code.Code.{Code}
use Rattle.ick_code.specs.meaning.Move.{first_state}
use Rattle.ick_backtrack.specs.Machine.{Program}
use Rattle.ick_inspect.specs.Positions.{AreAt, position_in, texts_of}
use Rattle.ick_inspect.specs.declared.positions.LineColumn.{LineColumn}
use Rattle.ick_runs.specs.Chosen.{Chosen}
use Rattle.ick_job.specs.Answer.{Answer, refusal, shown}
use Rattle.ick_job.specs.Input.{longest_input}
use Rattle.ick_job.specs.Notice.{notice_text}
use Rattle.ick_job.specs.declared.notice.Notice.{Notice}
use Rattle.ick_job.specs.declared.notice.Notice.TheVariants as notice
use Rattle.ick_step.specs.Seen.{Seen}
use Rattle.ick_session.specs.Session.{Settings, no_breakpoint}
use Rattle.ick_step_cli.specs.Job.{Wanted}
use Rattle.ick_step_cli.specs.Plan.{AreGivenBy, AreRefused, Planned, with_choices}
use Rattle.ick_step_cli.specs.Talk.{IsOver, Lines, Talks, output_text, typed}
use Rattle.ick_step_cli.specs.Trace.{IsRun, IsRunning, begin, steps_text, trace_answer, trace_text}

-- What may have been written when something fails, or a prefix of it: what a session writes for the first lines, the
-- lines of the first steps of a traced run, or the whole trace.
pub data IsBegun (f : Settings) (positions : List LineColumn) (lines : Lines)
    : (trace : Bool) → List ℕ → Type 0 where
  talking : (done left : List (List ℕ)) (g : Settings) (t : Seen) (text : List ℕ) → lines.all ≡ done ++ left
      → Talks lines.terminal f positions (begin f) done g t text
      → IsBegun f positions lines false (output_text lines.terminal f positions (begin f) text)
  tracing : (code : Code) (t : Seen) → IsCompiled f.program code → IsRunning f t
      → IsBegun f positions lines true (steps_text code positions t)
  traced_whole : (code : Code) (t : Seen) → IsCompiled f.program code → IsRun f t
      → IsBegun f positions lines true (trace_text code positions t)

-- The answer of a run. A session is over, or it ends with a prefix of its output after 2^64 - 1 lines.
pub data IsRunAnswer (f : Settings) (positions : List LineColumn) (lines : Lines)
    : (trace : Bool) → Answer → Type 0 where
  talked : (output : List ℕ) → IsOver f positions (begin f) lines [] output
      → IsRunAnswer f positions lines false (shown output)
  lines_too_many : (text : List ℕ) (n : ℕ) → 2 ^ 64 ≤ length lines.all + 1 → IsBegun f positions lines false text
      → IsRunAnswer f positions lines false
      (record { output = take n text; errors = notice_text notice.InputTooLong; status = 4 })
  traced : (code : Code) (t : Seen) → IsCompiled f.program code → IsRun f t
      → IsRunAnswer f positions lines true (trace_answer f.limit code positions t)

-- the run that is planned for a program over an input
abbrev pub run_of : Program → (input : List ℕ) → Planned → Settings
run_of program input p = record {
  program = program;
  start = first_state program input;
  given = p.chosen;
  limit = p.limit;
  breakpoints = no_breakpoint;
}

-- the positions of the statements of a source
abbrev pub ArePositions : (source : List ℕ) → Program → List LineColumn → Type 0
ArePositions source program positions = (starts : List ℕ)
    × AreAt source 0 (texts_of program) starts
    × (positions ≡ map (position_in source) starts)

-- a fact about them
abbrev pub Placed : (source : List ℕ) → Program → (List LineColumn → Type 0) → Type 0
Placed source program Fact = (positions : List LineColumn) × ArePositions source program positions × Fact positions

-- the input of a job, which is empty if no file is named; none if the count of its files' failures rose
abbrev pub input_of : Option Text → (named : List ℕ → List ℕ) → (before after : ℕ) → Option (List ℕ)
input_of None named before after = Some []
input_of (Some name) named before after = if before == after then Some (named name) else None

-- the lines of a job: what the reader has, if the source is a file's; if not, there are none, and no prompt
abbrev pub lines_by : (terminal : Bool) → Option Text → (left : List ℕ) → Lines
lines_by terminal None left = typed false []
lines_by terminal (Some name) left = typed terminal left

-- The answer to a source. The input isn't opened unless the source compiles.
pub data IsSourceAnswer (p : Planned) (input : Option (List ℕ)) (lines : Lines) (source : List ℕ)
    : Answer → Type 0 where
  too_long : longest < length source
      → IsSourceAnswer p input lines source (refusal 2 (notice_text notice.SourceTooLong))
  refused : (kind : FaultKind) (n : ℕ) → IsRefused source kind n
      → IsSourceAnswer p input lines source (refusal 2 (message_of kind n []))
  input_not_read : (program : Program) → Compiles source program → input ≡ None
      → IsSourceAnswer p input lines source (refusal 4 (notice_text notice.FileNotRead))
  input_too_long : (program : Program) (bytes : List ℕ) → Compiles source program → input ≡ Some bytes
      → longest_input < length bytes
      → IsSourceAnswer p input lines source (refusal 4 (notice_text notice.InputTooLong))
  compiled : (program : Program) (bytes : List ℕ) (positions : List LineColumn) (answer : Answer)
      → Compiles source program → input ≡ Some bytes → length bytes ≤ longest_input
      → ArePositions source program positions
      → IsRunAnswer (run_of program bytes p) positions lines p.trace answer
      → IsSourceAnswer p input lines source answer

-- the output that may have been begun for a source
pub record IsSourceBegun (p : Planned) (input : Option (List ℕ)) (lines : Lines) (source text : List ℕ)
    : Type 0 where
  pub program : Program
  pub bytes : List ℕ
  pub positions : List LineColumn
  pub compiles : Compiles source program
  pub input_is : input ≡ Some bytes
  pub fits : length bytes ≤ longest_input
  pub placed : ArePositions source program positions
  pub is : IsBegun (run_of program bytes p) positions lines p.trace text

-- the answer to a source that was read; there is none if the file did not open or a read of it failed
pub data IsReadAnswer (p : Planned) (input : Option (List ℕ)) (lines : Lines)
    : Option (List ℕ) → Answer → Type 0 where
  not_read : IsReadAnswer p input lines None (refusal 4 (notice_text notice.FileNotRead))
  read : (source : List ℕ) (answer : Answer) → IsSourceAnswer p input lines source answer
      → IsReadAnswer p input lines (Some source) answer

pub data IsReadBegun (p : Planned) (input : Option (List ℕ)) (lines : Lines)
    : Option (List ℕ) → List ℕ → Type 0 where
  read_begun : (source text : List ℕ) → IsSourceBegun p input lines source text
      → IsReadBegun p input lines (Some source) text

-- the answer to a job: its choices are refused, or its run is answered
pub data IsStepAnswer (w : Wanted) (input : Option (List ℕ)) (lines : Lines) (source : Option (List ℕ))
    : Answer → Type 0 where
  unplanned : (line : Notice) → AreRefused w.choices w.seed line
      → IsStepAnswer w input lines source (refusal 64 (notice_text line))
  planned : (chosen : Chosen) (answer : Answer) → AreGivenBy w.choices w.seed chosen
      → IsReadAnswer (with_choices w chosen) input lines source answer
      → IsStepAnswer w input lines source answer

-- the output that may have been begun for a job
pub record IsStepBegun (w : Wanted) (input : Option (List ℕ)) (lines : Lines) (source : Option (List ℕ))
    (text : List ℕ) : Type 0 where
  pub chosen : Chosen
  pub given : AreGivenBy w.choices w.seed chosen
  pub is : IsReadBegun (with_choices w chosen) input lines source text
