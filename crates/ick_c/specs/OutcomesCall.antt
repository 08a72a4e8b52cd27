-- What a call of `ick-outcomes` over a file, a listing and an input in memory leaves.
use Rattle.std.specs.Prelude.{◌≡◌, ◌≢◌, ◌<◌, ◌⊎◌, if◌then◌else◌, ℕ, true, List, [], Option, Some, option_map}
use Rattle.clap.specs.Words.{Text, fault_of}
use Rattle.ick_devices.specs.Written.{Written}
use Rattle.ick_job.specs.JobEnd.{input_of}
use Rattle.ick_job.specs.Usage.{AreMistakes, AreRequests, IsHelped, IsRefused}
use Rattle.ick_outcomes_cli.specs.Job.{HasJob, Wanted, has_file, job_of}
use Rattle.ick_outcomes_cli.specs.Serve.{IsOutcomesDue, IsOutcomesServed}
use Rattle.ick_outcomes_cli.specs.Tool.{IsOutcomesAnswer, MayStop}
use Rattle.ick_outcomes_cli.specs.Words.{outcomes_app}
use Rattle.ick_c.specs.Call.{OfBytes, Reports, failures_of}

-- the source of a job in memory: the file, or the input if the job names no file; and its listing, if it names one
abbrev pub source_in : Wanted → List ℕ → List ℕ → List ℕ
source_in job file input = if has_file job then file else input

abbrev pub listing_in : Wanted → List ℕ → Option (List ℕ)
listing_in job listing = option_map (λ name. listing) job.listing

-- a job is served: one of its answers is, or it stops with a line that it may stop with
abbrev pub JobServed : Wanted → Option (List ℕ) → Option (List ℕ) → List ℕ
    → (writer writer' errors errors' : Written) → ℕ → Type 0
JobServed job source listing input writer writer' errors errors' status =
    Reports (IsOutcomesServed (IsOutcomesAnswer job (input_of job.file input) listing source)
    (MayStop job (input_of job.file input) source) (failures_of writer) (failures_of writer')
    writer.bytes writer'.bytes) errors errors' status

-- What a call with these arguments leaves. If they ask for a job, the job is served. If not, a text of clap is written,
-- and the status is 4 if memory runs out for it. The error text and the status are those that are due.
pub record ServesOutcomes (arguments : List Text) (file listing input : List ℕ)
    (writer writer' errors errors' : Written) (status : ℕ) : Type 0 where
  pub job : HasJob arguments → JobServed (job_of arguments) (Some (source_in (job_of arguments) file input))
      (listing_in (job_of arguments) listing) input writer writer' errors errors' status
  pub no_job : fault_of outcomes_app arguments ≢ [] → ((writer' ≡ writer) × Reports IsRefused errors errors' status)
      ⊎ Reports (IsHelped true writer.failures writer'.failures writer.bytes writer'.bytes) errors errors' status
  pub usage : AreMistakes (fault_of outcomes_app arguments)
      → (writer' ≡ writer) × Reports IsRefused errors errors' status
  pub help : AreRequests (fault_of outcomes_app arguments)
      → Reports (IsHelped true writer.failures writer'.failures writer.bytes writer'.bytes) errors errors' status
  pub said : Reports (IsOutcomesDue (failures_of writer) (failures_of writer')) errors errors' status
  pub failed : (writer.failures < writer'.failures) ⊎ (errors.failures < errors'.failures) → status ≡ 4

abbrev pub OutcomesOfBytes : (bytes file listing input : List ℕ) (writer writer' errors errors' : Written)
    (status : ℕ) → Type 0
OutcomesOfBytes bytes file listing input writer writer' errors errors' status =
    OfBytes (λ arguments. ServesOutcomes arguments file listing input writer writer' errors errors' status) bytes
    writer writer' errors errors' status
