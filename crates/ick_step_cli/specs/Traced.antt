-- What the functions that write a trace leave.
use Rattle.std.specs.Prelude.{◌≡◌, ◌++◌, ℕ, Bool, true, false, List, [], length, option_map}
use Rattle.ick_code.specs.declared.code.Code.{Code}
use Rattle.ick_code.specs.meaning.Move.{ask}
use Rattle.ick_backtrack.specs.Asked.{finish_of}
use Rattle.ick_backtrack.specs.Machine.{Machine}
use Rattle.ick_inspect.specs.declared.positions.LineColumn.{LineColumn}
use Rattle.ick_inspect.specs.declared.text.Text.{Text}
use Rattle.ick_runs.specs.Chosen.{Chosen}
use Rattle.ick_step.specs.Seen.{Seen, present}
use Rattle.ick_session.specs.Lines.{Says}
use Rattle.ick_session.specs.Session.{Settings, no_breakpoint}
use Rattle.ick_step_cli.specs.Trace.{IsRun, steps_text, stop_at, trace_text}
use Rattle.ick_step_cli.specs.declared.trace.Stopped.{Stopped}

-- the run from a machine's state on
abbrev pub traced_run : Machine → Chosen → (limit : ℕ) → Settings
traced_run m chosen limit = record {
  program = m.program;
  start = m.state;
  given = chosen;
  limit = limit;
  breakpoints = no_breakpoint;
}

-- the bytes of a buffer were written, or they are still in it
pub data Flushes (told : Bool) (old new : Text) (before after : List ℕ) : Type 0 where
  kept : new ≡ old → after ≡ before → Flushes told old new before after
  flushed : new.bytes.items ≡ [] → (told ≡ true → (old.refused ≡ false) × (after ≡ before ++ old.bytes.items))
      → Flushes told old new before after

-- a text was written, except for its end, which is in a buffer unless memory was refused for it
pub record Buffers (told : Bool) (text before after : List ℕ) (out : Text) : Type 0 where
  pub said : List ℕ
  pub pending : List ℕ
  pub text_is : text ≡ said ++ pending
  pub written : told ≡ true → after ≡ before ++ said
  pub says : Says out pending

-- the run stopped so, after all its steps
pub record HasStopped (f : Settings) (t : Seen) (stopped : Stopped) : Type 0 where
  pub run : IsRun f t
  pub steps : stopped.steps ≡ length t.answers
  pub end : option_map finish_of stopped.end ≡ stop_at f.limit (length t.answers) (ask t.program (present t))

-- .. where the machine is, and the lines of its steps were written or are in a buffer
pub record HasTraced (f : Settings) (code : Code) (positions : List LineColumn) (stopped : Stopped) (m : Machine)
    (told : Bool) (before after : List ℕ) (out : Text) : Type 0 where
  pub seen : Seen
  pub has_stopped : HasStopped f seen stopped
  pub program : m.program ≡ seen.program
  pub state : m.state ≡ present seen
  pub buffers : Buffers told (steps_text code positions seen) before after out

-- .. and its whole trace was written
pub record IsTraced (f : Settings) (code : Code) (positions : List LineColumn) (stopped : Stopped)
    (before after : List ℕ) : Type 0 where
  pub seen : Seen
  pub has_stopped : HasStopped f seen stopped
  pub written : after ≡ before ++ trace_text code positions seen
