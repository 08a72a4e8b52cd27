-- What a call of `ick-stages` over a file and an input in memory leaves.
use Rattle.std.specs.Prelude.{◌≡◌, ◌≢◌, ◌<◌, ◌⊎◌, if◌then◌else◌, ℕ, true, List, [], Option, Some}
use Rattle.clap.specs.Words.{Text, fault_of}
use Rattle.ick_devices.specs.Written.{Written}
use Rattle.ick_job.specs.Serve.{IsDue}
use Rattle.ick_job.specs.Usage.{AreMistakes, AreRequests, IsHelped, IsRefused}
use Rattle.ick_stages_cli.specs.Gives.{IsStagesServed}
use Rattle.ick_stages_cli.specs.Job.{HasJob, Wanted, has_file, job_of}
use Rattle.ick_stages_cli.specs.Tool.{IsStagesAnswer, MayShow}
use Rattle.ick_stages_cli.specs.Words.{stages_app}
use Rattle.ick_c.specs.Call.{OfBytes, Reports, failures_of}

-- the source of a job in memory: the file, or the input if the job names no file
abbrev pub source_in : Wanted → List ℕ → List ℕ → List ℕ
source_in job file input = if has_file job then file else input

-- a job is served: an answer of it, or a prefix of its lines if memory ran out
abbrev pub StagesServed : Wanted → Option (List ℕ) → (writer writer' errors errors' : Written) → ℕ → Type 0
StagesServed job source writer writer' errors errors' status =
    Reports (IsStagesServed (IsStagesAnswer job source) (MayShow job source) (failures_of writer) (failures_of writer')
    writer.bytes writer'.bytes) errors errors' status

-- What a call with these arguments leaves. If they ask for a job, the job is served. If not, a text of
-- clap is written, and the status is 4 if memory runs out for it. The error text and the status are those that are due.
pub record ServesStages (arguments : List Text) (file input : List ℕ)
    (writer writer' errors errors' : Written) (status : ℕ) : Type 0 where
  pub job : HasJob arguments → StagesServed (job_of arguments) (Some (source_in (job_of arguments) file input))
      writer writer' errors errors' status
  pub no_job : fault_of stages_app arguments ≢ [] → ((writer' ≡ writer) × Reports IsRefused errors errors' status)
      ⊎ Reports (IsHelped true writer.failures writer'.failures writer.bytes writer'.bytes) errors errors' status
  pub usage : AreMistakes (fault_of stages_app arguments)
      → (writer' ≡ writer) × Reports IsRefused errors errors' status
  pub help : AreRequests (fault_of stages_app arguments)
      → Reports (IsHelped true writer.failures writer'.failures writer.bytes writer'.bytes) errors errors' status
  pub said : Reports (IsDue (failures_of writer) (failures_of writer')) errors errors' status
  pub failed : (writer.failures < writer'.failures) ⊎ (errors.failures < errors'.failures) → status ≡ 4

abbrev pub StagesOfBytes : (bytes file input : List ℕ) (writer writer' errors errors' : Written) (status : ℕ)
    → Type 0
StagesOfBytes bytes file input writer writer' errors errors' status =
    OfBytes (λ arguments. ServesStages arguments file input writer writer' errors errors' status) bytes
    writer writer' errors errors' status
