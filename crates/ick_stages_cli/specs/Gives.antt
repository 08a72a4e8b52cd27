-- What a job's end gives, and what a whole call leaves.
use Rattle.std.specs.Prelude.{◌≡◌, ◌+◌, ◌++◌, ℕ, List, Result, Ok, Err, take}
use Rattle.ick_job.specs.Answer.{Answer}
use Rattle.ick_job.specs.JobEnd.{Answers}
use Rattle.ick_job.specs.Notice.{notice_text}
use Rattle.ick_job.specs.Serve.{Failures}
use Rattle.ick_job.specs.declared.job_end.JobEnd.{JobEnd}
use Rattle.ick_job.specs.declared.job_end.JobEnd.TheVariants.{Answered, NoMemory, InputTooLong, FileNotRead}
use Rattle.ick_job.specs.declared.job_end.JobEnd.TheVariants.{ReadFailed, WriteFailed}
use Rattle.ick_job.specs.declared.notice.Message.TheVariants.{Nothing}
use Rattle.ick_job.specs.declared.notice.Notice.TheVariants as notice
use Rattle.ick_explorer.specs.declared.errors.RunsError.{RunsError}
use Rattle.ick_explorer.specs.declared.errors.RunsError.TheVariants.{Write}

-- there is an answer, and the job's end has it, behind what was written
abbrev pub HasSome : (Answer → Type 0) → JobEnd → List ℕ → List ℕ → Type 0
HasSome IsAnswer job_end before after = (answer : Answer) × IsAnswer answer × Answers answer job_end before after

-- The end has an answer, and all of its output is written. If memory runs out, whole statements are written, and if a
-- write fails, a prefix of whole statements is. If a read fails, nothing is.
abbrev pub Gives : (Answer → Type 0) → (List ℕ → Type 0) → JobEnd → List ℕ → List ℕ → Type 0
Gives IsAnswer AreWhole (Answered status message) before after = HasSome IsAnswer (Answered status message) before after
Gives IsAnswer AreWhole FileNotRead before after = HasSome IsAnswer FileNotRead before after
Gives IsAnswer AreWhole WriteFailed before after =
    (lines : List ℕ) × AreWhole lines × (k : ℕ) × (after ≡ before ++ take k lines)
Gives IsAnswer AreWhole NoMemory before after = (lines : List ℕ) × AreWhole lines × (after ≡ before ++ lines)
Gives IsAnswer AreWhole ReadFailed before after = after ≡ before
Gives IsAnswer AreWhole InputTooLong before after = ⊥

-- how work ends by the answer of writing the lines
abbrev pub end_by : {T : Type 0} → Result T RunsError → JobEnd
end_by (Ok _) = Answered 0 Nothing
end_by (Err Write) = WriteFailed
end_by (Err _) = NoMemory

-- The error text and the status that are due to a job, behind what was written. They are those of an answer that the
-- job has, and all of its output is written. If memory ran out, whole statements of the lines are written, and if the
-- writer failed, a prefix of whole statements is. If the reader failed, nothing is written.
pub data IsStagesServed (IsAnswer : Answer → Type 0) (AreWhole : List ℕ → Type 0) (old new : Failures)
    (before after : List ℕ) : List ℕ → ℕ → Type 0 where
  answered : (answer : Answer) → IsAnswer answer → new.reads ≡ old.reads → new.writes ≡ old.writes
      → after ≡ before ++ answer.output
      → IsStagesServed IsAnswer AreWhole old new before after answer.errors answer.status
  cut_by_write : (lines : List ℕ) → AreWhole lines → (k : ℕ) → new ≡ record old { writes = old.writes + 1 }
      → after ≡ before ++ take k lines
      → IsStagesServed IsAnswer AreWhole old new before after (notice_text notice.WriteFailed) 4
  unread : new ≡ record old { reads = old.reads + 1 } → after ≡ before
      → IsStagesServed IsAnswer AreWhole old new before after (notice_text notice.ReadFailed) 4
  without_memory : (lines : List ℕ) → AreWhole lines → new ≡ old → after ≡ before ++ lines
      → IsStagesServed IsAnswer AreWhole old new before after (notice_text notice.OutOfMemory) 4
