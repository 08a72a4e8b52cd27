-- What a job leaves in the writer, and what is said of it.
use Rattle.std.specs.Prelude.{◌≡◌, ◌+◌, ◌<◌, ◌++◌, ℕ, true, is_some, List, Option, Some, None, length, take}
use Rattle.clap.specs.Words.{Text}
use Rattle.ick_job.specs.Answer.{Answer}
use Rattle.ick_job.specs.Input.{longest_input}
use Rattle.ick_job.specs.JobEnd.{Answers}
use Rattle.ick_job.specs.Notice.{notice_text}
use Rattle.ick_job.specs.Serve.{Failures}
use Rattle.ick_job.specs.declared.job_end.JobEnd.{JobEnd}
use Rattle.ick_job.specs.declared.job_end.JobEnd.TheVariants.{Answered, FileNotRead, InputTooLong, NoMemory}
use Rattle.ick_job.specs.declared.notice.Notice.TheVariants.{OutOfMemory, ReadFailed, WriteFailed}

-- nothing was written, or a prefix of an output that may have been begun
pub data IsCutShort (IsBegun : List ℕ → Type 0) (before after : List ℕ) : Type 0 where
  unwritten : after ≡ before → IsCutShort IsBegun before after
  written : (text : List ℕ) (n : ℕ) → IsBegun text → after ≡ before ++ take n text → IsCutShort IsBegun before after

-- there is an answer, and the job's end has it
abbrev pub HasSome : (Answer → Type 0) → JobEnd → (before after : List ℕ) → Type 0
HasSome IsAnswer job_end before after =
    (answer : Answer) × IsAnswer answer × Answers answer job_end before after

-- the job's end has an answer, and its output was written; or reader, writer or memory failed
abbrev pub Gives : (Answer → Type 0) → (List ℕ → Type 0) → JobEnd → (before after : List ℕ) → Type 0
Gives IsAnswer IsBegun (Answered status message) before after = HasSome IsAnswer (Answered status message) before after
Gives IsAnswer IsBegun InputTooLong before after = HasSome IsAnswer InputTooLong before after
Gives IsAnswer IsBegun FileNotRead before after = HasSome IsAnswer FileNotRead before after
Gives IsAnswer IsBegun _ before after = IsCutShort IsBegun before after

-- The error text and the status that are due to a job, behind what was written. They are those of an answer that the
-- job has, and all of its output is written. If reader, writer or memory failed, a prefix is written of an output that
-- may have been begun.
pub data IsStepServed (IsAnswer : Answer → Type 0) (IsBegun : List ℕ → Type 0) (old new : Failures)
    (before after : List ℕ) : List ℕ → ℕ → Type 0 where
  answered : (answer : Answer) → IsAnswer answer → new.reads ≡ old.reads → new.writes ≡ old.writes
      → after ≡ before ++ answer.output
      → IsStepServed IsAnswer IsBegun old new before after answer.errors answer.status
  cut_by_read : new ≡ record old { reads = old.reads + 1 } → IsCutShort IsBegun before after
      → IsStepServed IsAnswer IsBegun old new before after (notice_text ReadFailed) 4
  cut_by_write : new ≡ record old { writes = old.writes + 1 } → IsCutShort IsBegun before after
      → IsStepServed IsAnswer IsBegun old new before after (notice_text WriteFailed) 4
  cut_by_memory : new ≡ old → IsCutShort IsBegun before after
      → IsStepServed IsAnswer IsBegun old new before after (notice_text OutOfMemory) 4

-- how work ends that did not read the input: the file wasn't read, the input is too long, or memory ran out
abbrev pub EndsUnread : Option Text → (named : List ℕ → List ℕ) → JobEnd → Type 0
EndsUnread name named FileNotRead = is_some name ≡ true
EndsUnread None named InputTooLong = ⊥
EndsUnread (Some name) named InputTooLong = longest_input < length (named name)
EndsUnread name named NoMemory = Unit {0}
EndsUnread name named _ = ⊥
