-- What the work leaves, by how it ends.
use Rattle.std.specs.Prelude.{◌≡◌, ◌==◌, if◌then◌else◌, ℕ, List, Option, Some, None}
use Rattle.ick_job.specs.JobEnd.{Answers, Leaves, WhereAnswered, job_end_status, job_end_text}
use Rattle.ick_job.specs.Notice.{notice_text}
use Rattle.ick_job.specs.Answer.{Answer, refusal}
use Rattle.ick_job.specs.declared.job_end.JobEnd.TheVariants.{Answered, NoMemory, InputTooLong, FileNotRead}
use Rattle.ick_job.specs.declared.job_end.JobEnd.TheVariants.{ReadFailed, WriteFailed}
use Rattle.ick_job.specs.declared.notice.Notice.{Notice}
use Rattle.ick_job.specs.declared.notice.Notice.TheVariants.{ListingTooLong, TooManyStates}
use Rattle.ick_outcomes_cli.specs.Unfinished.{IsUnfinishedText}
use Rattle.ick_outcomes_cli.specs.declared.outcomes_end.OutcomesEnd.{OutcomesEnd}
use Rattle.ick_outcomes_cli.specs.declared.outcomes_end.OutcomesEnd.TheVariants.{By, Refused, Unfinished}

-- the status and the error text
abbrev pub outcomes_end_status : OutcomesEnd → ℕ
outcomes_end_status (By job_end) = job_end_status job_end
outcomes_end_status (Refused line) = 4
outcomes_end_status (Unfinished line) = 4

abbrev pub outcomes_end_text : OutcomesEnd → List ℕ
outcomes_end_text (By job_end) = job_end_text job_end
outcomes_end_text (Refused line) = notice_text line
outcomes_end_text (Unfinished line) = line.items

-- a line of work that is refused although nothing failed
abbrev pub IsRefusal : Notice → Type 0
IsRefusal ListingTooLong = Unit {0}
IsRefusal TooManyStates = Unit {0}
IsRefusal _ = ⊥

-- the work ended so, and the counts of failures of files, reader and writer say what it opened, read and wrote
abbrev pub LeavesAll : OutcomesEnd → (files files' reads reads' writes writes' : ℕ) → Type 0
LeavesAll (By job_end) files files' reads reads' writes writes' =
    Leaves job_end files files' reads reads' writes writes'
LeavesAll (Refused line) files files' reads reads' writes writes' =
    IsRefusal line × (files' ≡ files) × (reads' ≡ reads) × (writes' ≡ writes)
LeavesAll (Unfinished line) files files' reads reads' writes writes' =
    IsUnfinishedText line.items × (files' ≡ files) × (reads' ≡ reads) × (writes' ≡ writes)

-- a fact that holds if the work ended with an answer
abbrev pub WhereGiven : OutcomesEnd → Type 0 → Type 0
WhereGiven (By job_end) Fact = WhereAnswered job_end Fact
WhereGiven (Refused line) Fact = Unit {0}
WhereGiven (Unfinished line) Fact = Unit {0}

-- there is an answer, and the job's end has it, behind what was written
abbrev pub HasSome : (Answer → Type 0) → (Answer → Type 0) → Type 0
HasSome IsAnswer Fits = (answer : Answer) × IsAnswer answer × Fits answer

-- The end has an answer, and its output is written, or a prefix of it if the writer failed. Or nothing is written:
-- a read failed, memory ran out, or the job may stop with the line.
abbrev pub Gives : (Answer → Type 0) → (List ℕ → Type 0) → OutcomesEnd → List ℕ → List ℕ → Type 0
Gives IsAnswer May (By (Answered status message)) before after =
    HasSome IsAnswer (λ answer. Answers answer (Answered status message) before after)
Gives IsAnswer May (By InputTooLong) before after =
    HasSome IsAnswer (λ answer. Answers answer InputTooLong before after)
Gives IsAnswer May (By FileNotRead) before after =
    HasSome IsAnswer (λ answer. Answers answer FileNotRead before after)
Gives IsAnswer May (By WriteFailed) before after =
    HasSome IsAnswer (λ answer. Answers answer WriteFailed before after)
Gives IsAnswer May (By NoMemory) before after = after ≡ before
Gives IsAnswer May (By ReadFailed) before after = after ≡ before
Gives IsAnswer May (Refused TooManyStates) before after = May (notice_text TooManyStates) × (after ≡ before)
Gives IsAnswer May (Refused ListingTooLong) before after =
    HasSome IsAnswer (λ answer. (answer ≡ refusal 4 (notice_text ListingTooLong)) × (after ≡ before))
Gives IsAnswer May (Refused _) before after = ⊥
Gives IsAnswer May (Unfinished line) before after = May line.items × (after ≡ before)

-- the listing of a name, if the count of the listings' failures did not rise
abbrev pub listing_of : Option (List ℕ) → (List ℕ → List ℕ) → ℕ → ℕ → Option (List ℕ)
listing_of None named before after = None
listing_of (Some name) named before after = if before == after then Some (named name) else None
