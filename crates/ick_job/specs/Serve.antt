-- What a whole call of the program leaves.
use Rattle.std.specs.Prelude.{◌≡◌, ◌+◌, ◌<◌, ◌≤◌, ◌++◌, ◌⊎◌, ℕ, Bool, true, List, take}
use Rattle.ick_job.specs.Notice.{notice_text}
use Rattle.ick_job.specs.Answer.{Answer}
use Rattle.ick_job.specs.declared.notice.Notice.{Notice}
use Rattle.ick_job.specs.declared.notice.Notice.TheVariants.{InputTooLong, FileNotRead, ReadFailed}
use Rattle.ick_job.specs.declared.notice.Notice.TheVariants.{WriteFailed, OutOfMemory}

-- how many calls of the files, the reader and the writer have failed
pub record Failures : Type 0 where
  pub files : ℕ
  pub reads : ℕ
  pub writes : ℕ

abbrev pub counts : ℕ → ℕ → ℕ → Failures
counts files reads writes = record { files = files; reads = reads; writes = writes }

-- one of the statuses of the program
abbrev pub IsStatus : ℕ → Type 0
IsStatus code = (code ≤ 4) ⊎ (code ≡ 64)

-- The error text and the status that are owed. If a device failed, the status is 4, and the text is the line of this
-- device, once. If none failed, the status is any but 4, or it is 4 with the line of an input that is too long or of
-- memory that ran out.
pub data IsDue (old new : Failures) : List ℕ → ℕ → Type 0 where
  nothing_failed : (text : List ℕ) (status : ℕ) → new ≡ old → (status ≤ 3) ⊎ (status ≡ 64) →
      IsDue old new text status
  file_failed : new ≡ record old { files = old.files + 1 } → IsDue old new (notice_text FileNotRead) 4
  read_failed : new ≡ record old { reads = old.reads + 1 } → IsDue old new (notice_text ReadFailed) 4
  write_failed : new ≡ record old { writes = old.writes + 1 } → IsDue old new (notice_text WriteFailed) 4
  input_long : new ≡ old → IsDue old new (notice_text InputTooLong) 4
  memory_failed : new ≡ old → IsDue old new (notice_text OutOfMemory) 4

-- The error text and the status that are owed to a job that has this answer, after what was written. They are the
-- answer's, and all of its output is written. If reader, writer or memory failed, a prefix of it is written.
pub data IsServed (answer : Answer) (old new : Failures) (before after : List ℕ) : List ℕ → ℕ → Type 0 where
  answered : new.reads ≡ old.reads → new.writes ≡ old.writes → after ≡ before ++ answer.output
      → IsServed answer old new before after answer.errors answer.status
  cut_by_read : (n : ℕ) → new ≡ record old { reads = old.reads + 1 } → after ≡ before ++ take n answer.output
      → IsServed answer old new before after (notice_text ReadFailed) 4
  cut_by_write : (n : ℕ) → new ≡ record old { writes = old.writes + 1 }
      → after ≡ before ++ take n answer.output
      → IsServed answer old new before after (notice_text WriteFailed) 4
  cut_by_memory : (n : ℕ) → new ≡ old → after ≡ before ++ take n answer.output
      → IsServed answer old new before after (notice_text OutOfMemory) 4

-- what is due to a job without a plan: its line, with status 64; or memory ran out
pub data IsLineDue (line : Notice) : List ℕ → ℕ → Type 0 where
  line_due : IsLineDue line (notice_text line) 64
  line_without_memory : IsLineDue line (notice_text OutOfMemory) 4

-- The text was written behind what stood on the error stream, and the status is the one given; or a prefix of the
-- text was, a write of it failed, and the status is 4.
pub record Finishes (told : Bool) (status : ℕ) (text : List ℕ)
    (failed failed' : ℕ) (errors errors' : List ℕ) (code : ℕ) : Type 0 where
  pub grows : failed ≤ failed'
  pub whole : failed' ≡ failed → (code ≡ status) × (told ≡ true → errors' ≡ errors ++ text)
  pub fault : failed < failed' → code ≡ 4
  pub beginning : told ≡ true → (n : ℕ) × (errors' ≡ errors ++ take n text)

-- an error text and a status that are due were finished so
abbrev pub FinishesDue : (List ℕ → ℕ → Type 0) → Bool → ℕ → ℕ → List ℕ → List ℕ → ℕ →
    Type 0
FinishesDue Due told failed failed' errors errors' code =
    (text : List ℕ) × (status : ℕ) × Due text status
    × Finishes told status text failed failed' errors errors' code
