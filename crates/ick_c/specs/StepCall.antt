-- What a call of `ick-step` over a file, an input and commands in memory leaves.
use Rattle.std.specs.Prelude.{◌≡◌, ◌≢◌, ◌<◌, ◌⊎◌, if◌then◌else◌, ℕ, false, true, List, [], Option, Some}
use Rattle.std.specs.Option.{option_map_or}
use Rattle.clap.specs.Words.{Text, fault_of}
use Rattle.ick_devices.specs.Written.{Written}
use Rattle.ick_job.specs.Serve.{IsDue}
use Rattle.ick_job.specs.Usage.{AreMistakes, AreRequests, IsHelped, IsRefused}
use Rattle.ick_step_cli.specs.Job.{HasJob, Wanted, has_file, job_of}
use Rattle.ick_step_cli.specs.Serve.{IsStepServed}
use Rattle.ick_step_cli.specs.Tool.{IsStepAnswer, IsStepBegun, lines_by}
use Rattle.ick_step_cli.specs.Words.{step_app}
use Rattle.ick_c.specs.Call.{OfBytes, Reports, failures_of}

-- the source of a job in memory: the file, or the commands if the job names no file; and its input, if it names one
abbrev pub source_in : Wanted → List ℕ → List ℕ → List ℕ
source_in job file commands = if has_file job then file else commands

abbrev pub input_in : Wanted → List ℕ → List ℕ
input_in job input = option_map_or (λ name. input) job.input []

-- a job is served: an answer of its session or of its trace is
abbrev pub StepServed : Wanted → (source input : Option (List ℕ)) → List ℕ
    → (writer writer' errors errors' : Written) → ℕ → Type 0
StepServed job source input commands writer writer' errors errors' status =
    Reports (IsStepServed (IsStepAnswer job input (lines_by false job.file commands) source)
    (IsStepBegun job input (lines_by false job.file commands) source) (failures_of writer) (failures_of writer')
    writer.bytes writer'.bytes) errors errors' status

-- What a call with these arguments leaves. If they ask for a job, the job is served. If not, a text of clap is written,
-- and the status is 4 if memory runs out for it. The error text and the status are those that are due.
pub record ServesStep (arguments : List Text) (file input commands : List ℕ)
    (writer writer' errors errors' : Written) (status : ℕ) : Type 0 where
  pub job : HasJob arguments → StepServed (job_of arguments) (Some (source_in (job_of arguments) file commands))
      (Some (input_in (job_of arguments) input)) commands writer writer' errors errors' status
  pub no_job : fault_of step_app arguments ≢ [] → ((writer' ≡ writer) × Reports IsRefused errors errors' status)
      ⊎ Reports (IsHelped true writer.failures writer'.failures writer.bytes writer'.bytes) errors errors' status
  pub usage : AreMistakes (fault_of step_app arguments)
      → (writer' ≡ writer) × Reports IsRefused errors errors' status
  pub help : AreRequests (fault_of step_app arguments)
      → Reports (IsHelped true writer.failures writer'.failures writer.bytes writer'.bytes) errors errors' status
  pub said : Reports (IsDue (failures_of writer) (failures_of writer')) errors errors' status
  pub failed : (writer.failures < writer'.failures) ⊎ (errors.failures < errors'.failures) → status ≡ 4

abbrev pub StepOfBytes : (bytes file input commands : List ℕ) (writer writer' errors errors' : Written) (status : ℕ)
    → Type 0
StepOfBytes bytes file input commands writer writer' errors errors' status =
    OfBytes (λ arguments. ServesStep arguments file input commands writer writer' errors errors' status) bytes
    writer writer' errors errors' status
