-- What a call over a file and an input in memory leaves.
use Rattle.std.specs.Prelude.{◌≡◌, ◌≢◌, ◌<◌, ◌⊎◌, if◌then◌else◌, ℕ, true, List, [], Some}
use Rattle.clap.specs.Words.{Text, fault_of}
use Rattle.ick_devices.specs.Written.{Written}
use Rattle.ick_job.specs.JobEnd.{input_of}
use Rattle.ick_cli.specs.Job.{Asked, HasJob, has_file, job_of}
use Rattle.ick_job.specs.Notice.{notice_text}
use Rattle.ick_job.specs.Serve.{Failures, Finishes, FinishesDue, IsDue, IsServed, counts}
use Rattle.ick_job.specs.Answer.{Answer}
use Rattle.ick_cli.specs.Tool.{IsToolAnswer}
use Rattle.ick_job.specs.Usage.{AreMistakes, AreRequests, IsHelped, IsRefused}
use Rattle.ick_cli.specs.Words.{ick_app}
use Rattle.ick_job.specs.declared.notice.Notice.TheVariants.{WordsNotRead}
use Rattle.ick_c.specs.Arguments.{Holds}

-- no byte was written, and no write failed
abbrev pub nothing : Written
nothing = record { bytes = []; failures = 0 }

-- the source of a job in memory: the file, or the input if the job names no file
abbrev pub source_in : Asked → List ℕ → List ℕ → List ℕ
source_in job file input = if has_file job then file else input

-- how many calls of the devices have failed: in memory only writes can fail
abbrev pub failures_of : Written → Failures
failures_of writer = counts 0 0 writer.failures

-- an error text and a status that are due were finished over a sink in memory
abbrev pub Reports : (List ℕ → ℕ → Type 0) → Written → Written → ℕ → Type 0
Reports Due errors errors' status =
    FinishesDue Due true errors.failures errors'.failures errors.bytes errors'.bytes status

-- What a call with these arguments leaves. If they ask for a job, the tool's answer is served. If not, a text of clap
-- is written, and the status is 4 if memory runs out for it. The error text and the status are those that are due.
pub record Serves (arguments : List Text) (file input : List ℕ)
    (writer writer' errors errors' : Written) (status : ℕ) : Type 0 where
  pub job : HasJob arguments → (answer : Answer)
      × IsToolAnswer (job_of arguments).task (Some (source_in (job_of arguments) file input))
      (input_of (job_of arguments).file input) answer
      × Reports (IsServed answer (failures_of writer) (failures_of writer') writer.bytes writer'.bytes)
      errors errors' status
  pub no_job : fault_of ick_app arguments ≢ [] → ((writer' ≡ writer) × Reports IsRefused errors errors' status)
      ⊎ Reports (IsHelped true writer.failures writer'.failures writer.bytes writer'.bytes) errors errors' status
  pub usage : AreMistakes (fault_of ick_app arguments)
      → (writer' ≡ writer) × Reports IsRefused errors errors' status
  pub help : AreRequests (fault_of ick_app arguments)
      → Reports (IsHelped true writer.failures writer'.failures writer.bytes writer'.bytes) errors errors' status
  pub said : Reports (IsDue (failures_of writer) (failures_of writer')) errors errors' status
  pub failed : (writer.failures < writer'.failures) ⊎ (errors.failures < errors'.failures) → status ≡ 4

-- What a call with bytes leaves: what one with the arguments leaves that the bytes hold. If they hold no arguments, the
-- call writes one line.
pub record OfBytes (Leaves : List Text → Type 0) (bytes : List ℕ)
    (writer writer' errors errors' : Written) (status : ℕ) : Type 0 where
  pub held : (arguments : List Text) → Holds bytes arguments → Leaves arguments
  pub unread : ((arguments : List Text) → ¬ Holds bytes arguments) → (writer' ≡ writer)
      × Finishes true 64 (notice_text WordsNotRead)
      errors.failures errors'.failures errors.bytes errors'.bytes status

abbrev pub ServesBytes : (bytes file input : List ℕ) (writer writer' errors errors' : Written) (status : ℕ)
    → Type 0
ServesBytes bytes file input writer writer' errors errors' status =
    OfBytes (λ arguments. Serves arguments file input writer writer' errors errors' status) bytes
    writer writer' errors errors' status
