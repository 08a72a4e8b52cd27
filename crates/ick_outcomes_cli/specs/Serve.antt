-- What a whole call leaves.
use Rattle.std.specs.Prelude.{◌≡◌, ◌+◌, ◌++◌, ℕ, List, take}
use Rattle.ick_job.specs.Notice.{notice_text}
use Rattle.ick_job.specs.Serve.{Failures, IsDue}
use Rattle.ick_job.specs.Answer.{Answer}
use Rattle.ick_job.specs.declared.notice.Notice.TheVariants.{ListingTooLong, OutOfMemory, ReadFailed, TooManyStates}
use Rattle.ick_job.specs.declared.notice.Notice.TheVariants.{WriteFailed}
use Rattle.ick_outcomes_cli.specs.Unfinished.{IsUnfinishedText}

-- the error text and the status that are due over any devices: those of `ick`, or a line with status 4 although nothing
-- failed
pub data IsOutcomesDue (old new : Failures) : List ℕ → ℕ → Type 0 where
  as_ick : (text : List ℕ) (status : ℕ) → IsDue old new text status → IsOutcomesDue old new text status
  many_states : new ≡ old → IsOutcomesDue old new (notice_text TooManyStates) 4
  long_listing : new ≡ old → IsOutcomesDue old new (notice_text ListingTooLong) 4
  unfinished : (line : List ℕ) → IsUnfinishedText line → new ≡ old → IsOutcomesDue old new line 4

-- The error text and the status that are due to a job, behind what was written. They are those of an answer that the
-- job has, and all of its output is written, or the writer failed and a prefix of it is. Or nothing is written: the
-- reader or memory failed, or the job stops with a line that it may stop with.
pub data IsOutcomesServed (IsAnswer : Answer → Type 0) (May : List ℕ → Type 0) (old new : Failures)
    (before after : List ℕ) : List ℕ → ℕ → Type 0 where
  answered : (answer : Answer) → IsAnswer answer → new.reads ≡ old.reads → new.writes ≡ old.writes
      → after ≡ before ++ answer.output
      → IsOutcomesServed IsAnswer May old new before after answer.errors answer.status
  cut_by_write : (answer : Answer) → IsAnswer answer → (n : ℕ) → new ≡ record old { writes = old.writes + 1 }
      → after ≡ before ++ take n answer.output
      → IsOutcomesServed IsAnswer May old new before after (notice_text WriteFailed) 4
  unread : new ≡ record old { reads = old.reads + 1 } → after ≡ before
      → IsOutcomesServed IsAnswer May old new before after (notice_text ReadFailed) 4
  without_memory : new ≡ old → after ≡ before
      → IsOutcomesServed IsAnswer May old new before after (notice_text OutOfMemory) 4
  stopped : (line : List ℕ) → May line → new ≡ old → after ≡ before
      → IsOutcomesServed IsAnswer May old new before after line 4
