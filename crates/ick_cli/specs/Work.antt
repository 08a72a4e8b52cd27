-- What work over a reader and a writer leaves.
use Rattle.std.specs.Prelude.{◌≡◌, ℕ, Bool, true, List}
use Rattle.ick_job.specs.JobEnd.{Answers, LeavesStreams, WhereAnswered}
use Rattle.ick_job.specs.Answer.{Answer}
use Rattle.ick_job.specs.declared.job_end.JobEnd.{JobEnd}

-- The counts of failures are those of the end. If the reader does what it says, an answered work left it such bytes.
-- If the writer does so too, each answer that the work may have is the end's, behind what was written before.
pub record Works (IsAnswer : Answer → Type 0) (IsLeft : List ℕ → Type 0) (job_end : JobEnd)
    (reads_told : Bool) (reads reads' : ℕ) (rest : List ℕ)
    (writes_told : Bool) (writes writes' : ℕ) (written written' : List ℕ) : Type 0 where
  pub leaves : LeavesStreams job_end reads reads' writes writes'
  pub left : reads_told ≡ true → WhereAnswered job_end (IsLeft rest)
  pub answer : reads_told ≡ true → writes_told ≡ true → (answer : Answer) → IsAnswer answer
      → Answers answer job_end written written'
