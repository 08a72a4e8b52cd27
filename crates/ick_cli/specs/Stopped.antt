-- What is said of a streamed run that stopped, and how work ends with it.
use Rattle.std.specs.Prelude.{◌≡◌, ℕ, List, [], ◌++◌, Result, Ok, Err, codes, decimal}
use Rattle.ick_machine.specs.declared.asking.EndKind.{EndKind}
use Rattle.ick_machine.specs.declared.asking.EndKind.TheVariants.{GiveUp, Fault, Limit, Wants}
use Rattle.ick_explorer.specs.declared.errors.RunsError.{RunsError}
use Rattle.ick_runs.specs.declared.streamed.Streamed.{Streamed}
use Rattle.ick_job.specs.JobEnd.{EndsBy, refused_job_end}
use Rattle.ick_job.specs.declared.job_end.JobEnd.{JobEnd}

-- the error text and the status of an end, by the message of its fault and the steps that were made
abbrev pub kind_text : EndKind → List ℕ → ℕ → List ℕ
kind_text GiveUp message steps = []
kind_text (Fault kind statement) message steps = message
kind_text Limit message steps = codes "LIMIT REACHED AFTER " ++ decimal steps ++ codes " STEPS\n"
kind_text Wants message steps = codes "CHOICE WANTED AFTER " ++ decimal steps ++ codes " STEPS\n"

abbrev pub kind_status : EndKind → ℕ
kind_status GiveUp = 0
kind_status (Fault kind statement) = 1
kind_status Limit = 3
kind_status Wants = 3

-- how work ends with a streamed run that stopped, or was refused
abbrev pub EndsAs : Result Streamed RunsError → JobEnd → Type 0
EndsAs (Ok s) job_end = EndsBy (kind_status s.end) (kind_text s.end s.message.items s.steps) job_end
EndsAs (Err error) job_end = job_end ≡ refused_job_end error
