-- What the work leaves, by how it ends.
use Rattle.std.specs.Prelude.{◌≡◌, ◌≤◌, ◌+◌, ◌++◌, ◌⊎◌, ◌==◌, if◌then◌else◌}
use Rattle.std.specs.Prelude.{is_some, take, ℕ, List, [], Option, Some, None}
use Rattle.ick_explorer.specs.declared.errors.RunsError.{RunsError}
use Rattle.ick_explorer.specs.declared.errors.RunsError.TheVariants as error
use Rattle.ick_job.specs.Notice.{notice_text}
use Rattle.ick_job.specs.Answer.{Answer}
use Rattle.ick_job.specs.declared.job_end.JobEnd.{JobEnd}
use Rattle.ick_job.specs.declared.job_end.JobEnd.TheVariants.{Answered, NoMemory, InputTooLong, FileNotRead}
use Rattle.ick_job.specs.declared.job_end.JobEnd.TheVariants.{ReadFailed, WriteFailed}
use Rattle.ick_job.specs.declared.notice.Message.{Message}
use Rattle.ick_job.specs.declared.notice.Message.TheVariants as message
use Rattle.ick_job.specs.declared.notice.Notice.{Notice}
use Rattle.ick_job.specs.declared.notice.Notice.TheVariants as notice

-- the bytes of an error text
abbrev pub message_text : Message → List ℕ
message_text message.Nothing = []
message_text (message.Notice n) = notice_text n
message_text (message.Text t) = t.items

-- the status and the error text of a job's end
abbrev pub job_end_status : JobEnd → ℕ
job_end_status (Answered status message) = status
job_end_status _ = 4

abbrev pub job_end_text : JobEnd → List ℕ
job_end_text (Answered status message) = message_text message
job_end_text NoMemory = notice_text notice.OutOfMemory
job_end_text InputTooLong = notice_text notice.InputTooLong
job_end_text FileNotRead = notice_text notice.FileNotRead
job_end_text ReadFailed = notice_text notice.ReadFailed
job_end_text WriteFailed = notice_text notice.WriteFailed

-- how many calls of the files failed, how many reads of the reader, and how many writes of the writer
abbrev pub failed_files : JobEnd → ℕ
failed_files FileNotRead = 1
failed_files _ = 0

abbrev pub failed_reads : JobEnd → ℕ
failed_reads ReadFailed = 1
failed_reads _ = 0

abbrev pub failed_writes : JobEnd → ℕ
failed_writes WriteFailed = 1
failed_writes _ = 0

-- a job's end by an answer has one of the statuses of answers, or that of usage
abbrev pub IsProper : JobEnd → Type 0
IsProper (Answered status message) = (status ≤ 3) ⊎ (status ≡ 64)
IsProper _ = Unit {0}

-- The work ended so, and the counts of failures of files, reader and writer say what it opened, read and wrote: the one
-- device whose failure is the job's end failed once, and the others not.
pub record Leaves (job_end : JobEnd) (files files' reads reads' writes writes' : ℕ) : Type 0 where
  pub proper : IsProper job_end
  pub opened : files' ≡ files + failed_files job_end
  pub read : reads' ≡ reads + failed_reads job_end
  pub wrote : writes' ≡ writes + failed_writes job_end

-- the same of work that does not open, and of work that does not read either
abbrev pub LeavesStreams : JobEnd → ℕ → ℕ → ℕ → ℕ → Type 0
LeavesStreams job_end reads reads' writes writes' = Leaves job_end 0 0 reads reads' writes writes'

abbrev pub LeavesWriter : JobEnd → ℕ → ℕ → Type 0
LeavesWriter job_end writes writes' = LeavesStreams job_end 0 0 writes writes'

-- an answer with this status and error text, or memory ran out
abbrev pub EndsBy : ℕ → List ℕ → JobEnd → Type 0
EndsBy status text (Answered given message) = (given ≡ status) × (message_text message ≡ text)
EndsBy status text NoMemory = Unit {0}
EndsBy status text _ = ⊥

-- the job's end that an answer has
abbrev pub HasAnswer : Answer → JobEnd → Type 0
HasAnswer answer (Answered status message) = (status ≡ answer.status) × (message_text message ≡ answer.errors)
HasAnswer answer InputTooLong = (4 ≡ answer.status) × (notice_text notice.InputTooLong ≡ answer.errors)
HasAnswer answer FileNotRead = (4 ≡ answer.status) × (notice_text notice.FileNotRead ≡ answer.errors)
HasAnswer answer _ = Unit {0}

-- all of the answer's output was written if the job's end has the answer, and else a prefix of it
abbrev pub Sends : List ℕ → JobEnd → List ℕ → List ℕ → Type 0
Sends output (Answered status message) before after = after ≡ before ++ output
Sends output InputTooLong before after = after ≡ before ++ output
Sends output FileNotRead before after = after ≡ before ++ output
Sends output _ before after = (n : ℕ) × (after ≡ before ++ take n output)

-- a job's end that has an answer, whose output went out
abbrev pub Answers : Answer → JobEnd → List ℕ → List ℕ → Type 0
Answers answer job_end before after = HasAnswer answer job_end × Sends answer.output job_end before after

-- a job's end by one of such lines, with the status of usage, or memory ran out
abbrev pub EndsByLine : (Notice → Type 0) → JobEnd → Type 0
EndsByLine IsLine (Answered status (message.Notice line)) = (status ≡ 64) × IsLine line
EndsByLine IsLine (Answered status _) = ⊥
EndsByLine IsLine NoMemory = Unit {0}
EndsByLine IsLine _ = ⊥

-- the output was sent, or the writer failed
abbrev pub EndsSent : JobEnd → Type 0
EndsSent (Answered status message) = Unit {0}
EndsSent WriteFailed = Unit {0}
EndsSent _ = ⊥

-- a fact that holds if the work ended with an answer
abbrev pub WhereAnswered : JobEnd → Type 0 → Type 0
WhereAnswered (Answered status message) Fact = Fact
WhereAnswered _ Fact = Unit {0}

-- the source that a job is given: none exactly if the count of the files' failures rose
abbrev pub source_of : Option (List ℕ) → (List ℕ → List ℕ) → ℕ → ℕ → List ℕ → Option (List ℕ)
source_of None named before after left = Some left
source_of (Some name) named before after left = if before == after then Some (named name) else None

-- the input of a job: what the reader has, if the source is a file's
abbrev pub input_of : Option (List ℕ) → List ℕ → List ℕ
input_of file left = if is_some file then left else []

-- An error that work may get from a call of the explorer or of a run. Each count of work begins at 0, so that none is
-- ever full, and an explorer that has failed is never used again.
abbrev pub Comes : RunsError → Type 0
Comes error.WorkFull = ⊥
Comes error.Failed = ⊥
Comes _ = Unit {0}

-- how work ends that a call of the explorer or of a run refused
abbrev pub refused_job_end : RunsError → JobEnd
refused_job_end error.NoSuchRun = Answered 64 (message.Notice notice.NoSuchRun)
refused_job_end error.BadCursor = Answered 64 (message.Notice notice.BadCursor)
refused_job_end error.Read = ReadFailed
refused_job_end error.Write = WriteFailed
refused_job_end _ = NoMemory
