-- What a job leaves in the reader.
use Rattle.std.specs.Prelude.{◌≡◌, ◌<◌, ◌+◌, ◌++◌, ◌==◌, ℕ, Bool, true, false, not, List, [], ◌∷◌, Option, Some, None}
use Rattle.std.specs.Prelude.{drop, length}
use Rattle.std.specs.List.{All, list_all}
use Rattle.clap.specs.Words.{Text}
use Rattle.ick_source.specs.Refusals.{Compiles, longest}
use Rattle.ick_syntax.specs.StatementTree.{StatementTree}
use Rattle.ick_runs.specs.Chosen.{Chosen}
use Rattle.ick_session.specs.Commands.{order_in, to_quit}
use Rattle.ick_job.specs.declared.notice.Notice.{Notice}
use Rattle.ick_step_cli.specs.Job.{Wanted}
use Rattle.ick_step_cli.specs.Plan.{AreGivenBy, AreRefused}
use Rattle.ick_step_cli.specs.Talk.{lines_of}

-- no line ends in a text
abbrev pub goes_on : List ℕ → Bool
goes_on text = list_all (λ b. not (b == 10)) text

-- a line was taken from a text, with its end; the last line of a text may have none
pub data TakesLine (line : List ℕ) : (before after : List ℕ) → Type 0 where
  with_end : (after : List ℕ) → goes_on line ≡ true → TakesLine line (line ++ 10 ∷ after) after
  at_end : goes_on line ≡ true → 0 < length line → TakesLine line line []

-- the first lines of a text were taken, each with its end, or all its lines
pub data AreTaken (text : List ℕ) : (lines : List (List ℕ)) → (left : List ℕ) → Type 0 where
  first_lines : (front left : List ℕ) → text ≡ front ++ 10 ∷ left
      → AreTaken text (lines_of (front ++ 10 ∷ [])) left
  all_lines : AreTaken text (lines_of text) []

-- a line ends a session
abbrev pub IsQuit : List ℕ → Type 0
IsQuit line = order_in line ≡ Some to_quit

-- What a session leaves of its lines: those behind the first `quit`, and nothing if there is none.
pub data IsLeftByLines (text : List ℕ) : List ℕ → Type 0 where
  left_at_end : All (λ line. ¬ IsQuit line) (lines_of text) → IsLeftByLines text []
  left_at_quit : (lines : List (List ℕ)) (line left : List ℕ) → AreTaken text (lines ++ line ∷ []) left
      → All (λ other. ¬ IsQuit other) lines → IsQuit line → IsLeftByLines text left

-- what a run leaves of the lines: a trace takes none
pub data IsLeftByRun (text : List ℕ) : (trace : Bool) → List ℕ → Type 0 where
  left_by_trace : IsLeftByRun text true text
  left_by_session : (left : List ℕ) → IsLeftByLines text left → IsLeftByRun text false left

-- no program is compiled from a source
abbrev pub HasNoProgram : List ℕ → Type 0
HasNoProgram source = (trees : List StatementTree) → ¬ Compiles source trees

-- .. and the source is the file's that a job names
abbrev pub IsRefusedFile : Option Text → (named : List ℕ → List ℕ) → Type 0
IsRefusedFile None named = ⊥
IsRefusedFile (Some name) named = HasNoProgram (named name)

-- what a source leaves of the lines: all of them, unless it compiles
pub data IsLeftBySource (trace : Bool) (source text : List ℕ) : List ℕ → Type 0 where
  left_refused : HasNoProgram source → IsLeftBySource trace source text text
  left_compiled : (trees : List StatementTree) (left : List ℕ) → Compiles source trees
      → IsLeftByRun text trace left → IsLeftBySource trace source text left

-- What a job that has choices leaves in the reader: what its source leaves, if it names a file; else the reader is read
-- to its end, and up to one byte more than the longest source.
pub data IsLeftRead (file : Option Text) (trace : Bool) (named : List ℕ → List ℕ) (before : List ℕ)
    : List ℕ → Type 0 where
  left_with_file : (name left : List ℕ) → file ≡ Some name → IsLeftBySource trace (named name) before left
      → IsLeftRead file trace named before left
  left_without_file : file ≡ None → IsLeftRead file trace named before (drop (longest + 1) before)

-- a job whose choices are refused leaves all
pub data IsLeft (w : Wanted) (named : List ℕ → List ℕ) (before : List ℕ) : List ℕ → Type 0 where
  left_unplanned : (line : Notice) → AreRefused w.choices w.seed line → IsLeft w named before before
  left_planned : (chosen : Chosen) (left : List ℕ) → AreGivenBy w.choices w.seed chosen
      → IsLeftRead w.file w.trace named before left → IsLeft w named before left
