-- The job that arguments ask for, as clap parses them.
use Rattle.std.specs.Prelude.{◌≡◌, ℕ, Bool, true, false, List, [], Option, None, codes}
use Rattle.std.specs.Prelude.{is_some, if◌then◌else◌, option_map}
use Rattle.std.specs.Option.{option_map_or}
use Rattle.std.specs.Str.{bytes_eq}
use Rattle.clap.specs.Words.{Row, Text, fault_of, subcommand_of}
use Rattle.ick_cli.specs.Words.{ick_app}
use Rattle.ick_cli.specs.declared.words.job.Job.{Job}
use Rattle.ick_cli.specs.declared.words.job.Subcommand.{Subcommand}
use Rattle.ick_cli.specs.declared.words.job.Subcommand.TheVariants.{Check, List as ListStatements, Run, Runs}
use Rattle.ick_job.specs.Values.{number_in, number_or, text_in}

-- what is to be done with a program
pub data Task : Type 0 where
  to_check : Task
  to_list : Task
  to_run : (choices : Option Text) (seed : Option ℕ) (limit : ℕ) → Task
  to_list_runs : (from : Option Text) (count limit : ℕ) → Task

-- the task and FILE
pub record Asked : Type 0 where
  pub task : Task
  pub file : Option Text

-- it names a file
abbrev pub has_file : Asked → Bool
has_file a = is_some a.file

-- it takes an input
abbrev pub takes_input : Task → Bool
takes_input to_check = false
takes_input to_list = false
takes_input (to_run choices seed limit) = true
takes_input (to_list_runs from count limit) = true

-- what a job is, whatever memory its texts lie in
abbrev pub task_of : Subcommand → Task
task_of Check = to_check
task_of ListStatements = to_list
task_of (Run choices seed limit) = to_run (option_map (λ s. s.now) choices) seed limit
task_of (Runs from count limit) = to_list_runs (option_map (λ s. s.now) from) count limit

abbrev pub asked : Job → Asked
asked j = record { task = task_of j.subcommand; file = option_map (λ s. s.now) j.file }

-- a run, and a listing of runs, with the usual number if none is given
abbrev pub run_in : List Row → Task
run_in rows =
    to_run (text_in (codes "choices") rows) (number_in 64 (codes "seed") rows) (number_or (codes "limit") rows 1000000)

abbrev pub runs_in : List Row → Task
runs_in rows =
    to_list_runs (text_in (codes "from") rows) (number_or (codes "count") rows 1000)
    (number_or (codes "limit") rows 10000)

-- the task of a command's name
abbrev pub task_named : Text → List Row → Task
task_named name rows = if bytes_eq name (codes "check") then to_check
    else (if bytes_eq name (codes "list") then to_list
    else (if bytes_eq name (codes "runs") then runs_in rows else run_in rows))

-- what the parsed arguments of a command ask for
abbrev pub asked_of : Text → List Row → Asked
asked_of name rows = record { task = task_named name rows; file = text_in (codes "file") rows }

-- a run without arguments, if no command is named
abbrev pub asked_in : Option (Text × List Row) → Asked
asked_in found = option_map_or (λ p. asked_of p.0 p.1) found (record { task = run_in []; file = None })

-- the arguments ask for a job: by the law of clap their parse fails only if memory runs out
abbrev pub HasJob : List Text → Type 0
HasJob words = fault_of ick_app words ≡ []

abbrev pub job_of : List Text → Asked
job_of words = asked_in (subcommand_of ick_app words)
