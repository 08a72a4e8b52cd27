-- What the work of a job leaves, and what an answer to a source or to code leaves.
use Rattle.std.specs.Prelude.{◌≡◌, ◌<◌, ℕ, Bool, true, false, List}
use Rattle.ick_backtrack.specs.Machine.{Program}
use Rattle.ick_job.specs.JobEnd.{Answers, Leaves, WhereAnswered, input_of, source_of}
use Rattle.ick_cli.specs.Job.{Asked, has_file, takes_input}
use Rattle.ick_cli.specs.Left.{IsLeft, IsLeftByRuns, IsLeftBySource}
use Rattle.ick_cli.specs.Plan.{IsUnplanned, reads_input}
use Rattle.ick_job.specs.Serve.{Failures}
use Rattle.ick_job.specs.Answer.{Answer}
use Rattle.ick_cli.specs.Tool.{IsExecuted, IsSourceAnswer, IsToolAnswer}
use Rattle.ick_cli.specs.Work.{Works}
use Rattle.ick_job.specs.declared.job_end.JobEnd.{JobEnd}
use Rattle.ick_job.specs.declared.job_end.JobEnd.TheVariants.{Answered}
use Rattle.ick_job.specs.declared.notice.Message.TheVariants as message
use Rattle.ick_job.specs.declared.notice.Notice.{Notice}
use Rattle.ick_cli.specs.declared.plan.Plan.{Plan}
use Rattle.ick_cli.specs.declared.plan.Runs.{Runs}

-- What the work of a job leaves in the files, the reader and the writer. A name with a prime is that after the work.
pub record Performs {F R W : Type 0} (asked : Asked) (old new : Failures)
    (files_told : Bool) (named : List ℕ → List ℕ) (files files' : F)
    (reader_told : Bool) (rest rest' : List ℕ) (reader reader' : R)
    (writer_told : Bool) (written written' : List ℕ) (writer writer' : W) (job_end : JobEnd) : Type 0 where
  -- The counts of failures are those of the end.
  pub leaves : Leaves job_end old.files new.files old.reads new.reads old.writes new.writes
  -- A job that names a file and takes no input leaves the reader unchanged.
  pub reader_kept : has_file asked ≡ true → takes_input asked.task ≡ false → reader' ≡ reader
  -- A job that names no file leaves the files unchanged.
  pub files_kept : has_file asked ≡ false → files' ≡ files
  -- A job without a plan leaves files, reader and writer unchanged, and ends by its line.
  pub unplanned : (line : Notice) → IsUnplanned asked.task line
      → (files' ≡ files) × (reader' ≡ reader) × (writer' ≡ writer)
      × (job_end ≡ Answered 64 (message.Notice line))
  -- If the source comes from the reader, and a read of it fails, the writer is unchanged.
  pub source_first : has_file asked ≡ false → old.reads < new.reads → writer' ≡ writer
  -- If files and reader do what they say, an answered job leaves in the reader what such a job leaves.
  pub left : files_told ≡ true → reader_told ≡ true → WhereAnswered job_end (IsLeft asked named rest rest')
  -- If the writer does so too, each answer that the job may have is the end's, behind what was written before.
  pub answer : files_told ≡ true → reader_told ≡ true → writer_told ≡ true → (answer : Answer)
      → IsToolAnswer asked.task (source_of asked.file named old.files new.files rest)
      (input_of asked.file rest) answer
      → Answers answer job_end written written'

-- What an answer to a source leaves in the reader and in the writer.
pub record AnswersSource {R : Type 0} (plan : Plan) (source input : List ℕ) (job_end : JobEnd)
    (reader_told : Bool) (reads reads' : ℕ) (rest : List ℕ) (reader reader' : R)
    (writer_told : Bool) (writes writes' : ℕ) (written written' : List ℕ) : Type 0 where
  -- It is work that has the source's answer, and leaves of the input what such a source leaves.
  pub works : Works (IsSourceAnswer plan source input) (IsLeftBySource plan source input) job_end
      reader_told reads reads' rest writer_told writes writes' written written'
  -- A plan that takes no input leaves the reader unchanged.
  pub reader_kept : reads_input plan ≡ false → reader' ≡ reader

-- An answer to code is work that has the answer of its runs, and leaves of the input what these runs leave.
abbrev pub AnswersCode : Program → Runs → List ℕ → JobEnd → Bool → ℕ → ℕ → List ℕ
    → Bool → ℕ → ℕ → List ℕ → List ℕ → Type 0
AnswersCode program runs input = Works (IsExecuted program input runs) (IsLeftByRuns program input runs)
