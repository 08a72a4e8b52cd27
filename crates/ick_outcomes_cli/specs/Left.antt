-- What a job leaves in the reader.
use Rattle.std.specs.Prelude.{◌≡◌, ◌+◌, true, false, ℕ, List, Some, None, drop}
use Rattle.ick_source.specs.Refusals.{Compiles, longest}
use Rattle.ick_syntax.specs.StatementTree.{StatementTree}
use Rattle.ick_job.specs.Input.{longest_input}
use Rattle.ick_outcomes_cli.specs.Job.{Wanted, asks_both}

-- What a source leaves of an input: all of it, unless the source compiles. Then the input is read whole, and up to one
-- byte more than the longest one.
pub data IsLeftBySource (source input : List ℕ) : List ℕ → Type 0 where
  left_refused : ((trees : List StatementTree) → ¬ Compiles source trees) → IsLeftBySource source input input
  left_compiled : (trees : List StatementTree) → Compiles source trees
      → IsLeftBySource source input (drop (longest_input + 1) input)

-- What a job that is done leaves in the reader: what its source leaves, if it names a file; else the reader is read to
-- its end, and up to one byte more than the longest source.
pub data IsLeftRead (w : Wanted) (named : List ℕ → List ℕ) (before : List ℕ) : List ℕ → Type 0 where
  left_with_file : (name left : List ℕ) → w.file ≡ Some name → IsLeftBySource (named name) before left
      → IsLeftRead w named before left
  left_without_file : w.file ≡ None → IsLeftRead w named before (drop (longest + 1) before)

-- a job that asks for both leaves all
pub data IsLeft (w : Wanted) (named : List ℕ → List ℕ) (before : List ℕ) : List ℕ → Type 0 where
  left_both : asks_both w ≡ true → IsLeft w named before before
  left_one : (left : List ℕ) → asks_both w ≡ false → IsLeftRead w named before left → IsLeft w named before left
