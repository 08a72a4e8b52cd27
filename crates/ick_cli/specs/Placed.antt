-- The position of the explorer of a listing, or why there is no explorer.
use Rattle.std.specs.Prelude.{◌≡◌, ◌≤◌, ℕ, Bool, List, Option, Some}
use Rattle.ick_code.specs.meaning.State.{State}
use Rattle.ick_backtrack.specs.Machine.{Machine}
use Rattle.ick_explorer.specs.Runs.{IsWhole}
use Rattle.ick_explorer.specs.Standing.{Explored, Stands}
use Rattle.ick_explorer.specs.declared.errors.RunsError.{RunsError}
use Rattle.ick_explorer.specs.declared.errors.RunsError.TheVariants.{NoMemory, NoSuchRun}
use Rattle.ick_job.specs.Answer.{Answer}
use Rattle.ick_cli.specs.Tool.{IsRunsAnswer}

-- the explorer is at a position in the runs from the machine's state, and its count is the limit at most
pub record IsPlaced (m : Machine) (limit : ℕ) (from : Option (List Bool)) (e : Explored) : Type 0 where
  pub stands : Stands m.state e
  pub position : e.from ≡ from
  pub program : e.program ≡ m.program
  pub limit_is : e.limit ≡ limit
  pub work : e.work ≤ limit

-- why there is no explorer: memory ran out, or the list isn't whole
abbrev pub IsUnplaced : Machine → ℕ → Option (List Bool) → RunsError → Type 0
IsUnplaced m limit from NoMemory = Unit {0}
IsUnplaced m limit from NoSuchRun = (c : List Bool) × (from ≡ Some c) × ¬ IsWhole m.program m.state limit c
IsUnplaced m limit from _ = ⊥

-- the answer of the listing after the position of an explorer
abbrev pub IsRunsAnswerAt : State → ℕ → Explored → Answer → Type 0
IsRunsAnswerAt s count e answer = IsRunsAnswer e.program s e.limit count e.from answer
