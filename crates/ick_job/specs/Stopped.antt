-- What is said of a run that stopped, and how work ends with it.
use Rattle.std.specs.Prelude.{ℕ, List, [], ◌++◌, codes, decimal}
use Rattle.ick_job.specs.JobEnd.{EndsBy}
use Rattle.ick_job.specs.declared.job_end.JobEnd.{JobEnd}
use Rattle.ick_job.specs.declared.stopped.Stop.{Stop}
use Rattle.ick_job.specs.declared.stopped.Stop.TheVariants.{GiveUp, Fault, Limit, Wants}

-- the error text and the status of a stop, by the steps that were made
abbrev pub stopped_text : Stop → ℕ → List ℕ
stopped_text GiveUp steps = []
stopped_text (Fault message) steps = message.items
stopped_text Limit steps = codes "LIMIT REACHED AFTER " ++ decimal steps ++ codes " STEPS\n"
stopped_text Wants steps = codes "CHOICE WANTED AFTER " ++ decimal steps ++ codes " STEPS\n"

abbrev pub stopped_status : Stop → ℕ
stopped_status GiveUp = 0
stopped_status (Fault message) = 1
stopped_status Limit = 3
stopped_status Wants = 3

-- how work ends with a run that stopped so
abbrev pub EndsStopped : Stop → ℕ → JobEnd → Type 0
EndsStopped stop steps = EndsBy (stopped_status stop) (stopped_text stop steps)
