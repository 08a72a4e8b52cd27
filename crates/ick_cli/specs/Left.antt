-- What a job leaves in the reader.
use Rattle.std.specs.Prelude.{◌≡◌, ◌+◌, ℕ, Bool, false, List, [], Option, Some, None, drop, unwrap_or}
use Rattle.ick_source.specs.Refusals.{Compiles, longest}
use Rattle.ick_syntax.specs.StatementTree.{StatementTree}
use Rattle.ick_code.specs.meaning.Move.{first_state}
use Rattle.ick_backtrack.specs.Machine.{Program}
use Rattle.ick_runs.specs.Draws.{IsDrawn, word_of}
use Rattle.ick_explorer.specs.Runs.{run}
use Rattle.ick_cli.specs.Job.{Asked}
use Rattle.ick_cli.specs.Plan.{IsPlanned, IsUnplanned, reads_input}
use Rattle.ick_job.specs.Input.{longest_input}
use Rattle.ick_job.specs.declared.notice.Notice.{Notice}
use Rattle.ick_cli.specs.declared.plan.Plan.{Plan}
use Rattle.ick_cli.specs.declared.plan.Plan.TheVariants.{Execute}
use Rattle.ick_cli.specs.declared.plan.Runs.{Runs}
use Rattle.ick_cli.specs.declared.plan.Runs.TheVariants.{Given, Drawn, Listed}

-- What runs leave of an input. One run leaves what it has not read; a listing of runs reads the whole input, and one
-- byte more than the longest one of an input that is too long.
pub data IsLeftByRuns (program : Program) (input : List ℕ) : Runs → List ℕ → Type 0 where
  left_by_given : (choices : Option (List Bool)) (limit : ℕ)
      → IsLeftByRuns program input (Given choices limit)
      (run program (first_state program input) limit (unwrap_or choices [])).last.input
  left_by_drawn : (seed limit : ℕ) (c : List Bool)
      → IsDrawn program (first_state program input) limit (word_of seed) c
      → IsLeftByRuns program input (Drawn seed limit) (run program (first_state program input) limit c).last.input
  left_by_listed : (from : Option (List Bool)) (count limit : ℕ)
      → IsLeftByRuns program input (Listed from count limit) (drop (longest_input + 1) input)

-- what a program leaves of an input: all of it, unless the plan runs the program
pub data IsLeftByProgram (trees : List StatementTree) (input : List ℕ) : Plan → List ℕ → Type 0 where
  left_alone : (plan : Plan) → reads_input plan ≡ false → IsLeftByProgram trees input plan input
  left_by_runs : (runs : Runs) (left : List ℕ) → IsLeftByRuns trees input runs left
      → IsLeftByProgram trees input (Execute runs) left

-- what a source leaves of an input: all of it, unless the source compiles
pub data IsLeftBySource (plan : Plan) (source input : List ℕ) : List ℕ → Type 0 where
  left_refused : ((trees : List StatementTree) → ¬ Compiles source trees) → IsLeftBySource plan source input input
  left_compiled : (trees : List StatementTree) (left : List ℕ) → Compiles source trees
      → IsLeftByProgram trees input plan left → IsLeftBySource plan source input left

-- What a job leaves in the reader: all, if it has no plan; what its program leaves, if it names a file; else the reader
-- is read to its end, and up to one byte more than the longest source.
pub data IsLeft (asked : Asked) (named : List ℕ → List ℕ) (before : List ℕ) : List ℕ → Type 0 where
  left_unplanned : (line : Notice) → IsUnplanned asked.task line → IsLeft asked named before before
  left_with_file : (name : List ℕ) (plan : Plan) (left : List ℕ)
      → asked.file ≡ Some name
      → IsPlanned asked.task plan
      → IsLeftBySource plan (named name) before left → IsLeft asked named before left
  left_without_file : (plan : Plan) → asked.file ≡ None → IsPlanned asked.task plan
      → IsLeft asked named before (drop (longest + 1) before)
