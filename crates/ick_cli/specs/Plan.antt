-- What a task comes to once its text of choices was read, before anything else is.
use Rattle.std.specs.Prelude.{ℕ, Bool, true, false, List, Option, Some, None}
use Rattle.clap.specs.Words.{Text}
use Rattle.ick_cli.specs.Job.{Task, to_check, to_list, to_run, to_list_runs}
use Rattle.ick_job.specs.declared.notice.Notice.{Notice}
use Rattle.ick_job.specs.declared.notice.Notice.TheVariants.{ChoicesAndSeed}
use Rattle.ick_cli.specs.declared.plan.Plan.{Plan}
use Rattle.ick_cli.specs.declared.plan.Plan.TheVariants.{Check, List as ListStatements, Execute}
use Rattle.ick_cli.specs.declared.plan.Runs.TheVariants.{Given, Drawn, Listed}
use Rattle.ick_job.specs.Choices.{AreChoices, IsUnread, most_choices}

-- the plan of a task
pub data IsPlanned : Task → Plan → Type 0 where
  check_planned : IsPlanned to_check Check
  list_planned : IsPlanned to_list ListStatements
  run_planned : (text : Option Text) (limit : ℕ) (choices : Option (List Bool))
      → AreChoices text most_choices choices → IsPlanned (to_run text None limit) (Execute (Given choices limit))
  seed_planned : (seed limit : ℕ) → IsPlanned (to_run None (Some seed) limit) (Execute (Drawn seed limit))
  runs_planned : (text : Option Text) (count limit : ℕ) (from : Option (List Bool)) → AreChoices text limit from
      → IsPlanned (to_list_runs text count limit) (Execute (Listed from count limit))

-- it has a plan
abbrev pub HasPlan : Task → Type 0
HasPlan task = (plan : Plan) × IsPlanned task plan

-- the line of a task that has no plan
pub data IsUnplanned : Task → Notice → Type 0 where
  together : (text : Text) (seed limit : ℕ) → IsUnplanned (to_run (Some text) (Some seed) limit) ChoicesAndSeed
  choices_unread : (text : Option Text) (limit : ℕ) (line : Notice) → IsUnread most_choices text line
      → IsUnplanned (to_run text None limit) line
  from_unread : (text : Option Text) (count limit : ℕ) (line : Notice) → IsUnread limit text line
      → IsUnplanned (to_list_runs text count limit) line

-- whether a plan takes an input
abbrev pub reads_input : Plan → Bool
reads_input Check = false
reads_input ListStatements = false
reads_input (Execute runs) = true
