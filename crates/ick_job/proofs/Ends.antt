-- How work ends, and what it leaves by that.
use Rattle.std.proofs.Common.{◌≡◌, ◌+◌, ◌≤◌, ◌⊎◌, inl, ℕ, List, arith, refl, subst, sym}
use Rattle.std.proofs.lemmas.List.{append-nil}
use Rattle.ick_explorer.specs.declared.errors.RunsError.{RunsError}
use Rattle.ick_explorer.specs.declared.errors.RunsError.TheVariants.{NoMemory, Read, Write}
use Rattle.ick_job.specs.Answer.{Answer, refusal}
use Rattle.ick_job.specs.Input.{EndsCut, EndsUnopened, EndsUnread}
use Rattle.ick_job.specs.JobEnd.{Answers, EndsBy, Leaves, LeavesStreams, WhereAnswered, refused_job_end}
use Rattle.ick_job.specs.declared.job_end.JobEnd.{JobEnd}
use Rattle.ick_job.specs.declared.job_end.JobEnd.TheVariants.{Answered, InputTooLong, FileNotRead, ReadFailed}
use Rattle.ick_job.specs.declared.job_end.JobEnd.TheVariants.{WriteFailed}
use Rattle.ick_job.specs.declared.job_end.JobEnd.TheVariants.{NoMemory as WithoutMemory}
use Rattle.ick_job.proofs.Errors.{one_of_three}

-- a fact holds where work ended with an answer, if it holds anyway, or another does
pub where_answered : (job_end : JobEnd) (Fact : Type 0) → Fact → WhereAnswered job_end Fact
where_answered (Answered status message) Fact h = h
where_answered WithoutMemory Fact h = tt
where_answered InputTooLong Fact h = tt
where_answered FileNotRead Fact h = tt
where_answered ReadFailed Fact h = tt
where_answered WriteFailed Fact h = tt

pub where_other : (job_end : JobEnd) (Fact Other : Type 0) → (Fact → Other) → WhereAnswered job_end Fact
    → WhereAnswered job_end Other
where_other (Answered status message) Fact Other so h = so h
where_other WithoutMemory Fact Other so h = tt
where_other InputTooLong Fact Other so h = tt
where_other FileNotRead Fact Other so h = tt
where_other ReadFailed Fact Other so h = tt
where_other WriteFailed Fact Other so h = tt

-- a run that was refused, and an input that wasn't read, end without an answer
pub where_refused : (e : RunsError) (job_end : JobEnd) (Fact : Type 0) → job_end ≡ refused_job_end e
    → (e ≡ NoMemory) ⊎ ((e ≡ Read) ⊎ (e ≡ Write)) → WhereAnswered job_end Fact
where_refused e job_end Fact so one =
    subst (λ (x : JobEnd). WhereAnswered x Fact) (sym so)
    (one_of_three (λ (x : RunsError). WhereAnswered (refused_job_end x) Fact) NoMemory Read Write e tt tt tt one)

pub where_cut : (job_end : JobEnd) (Fact : Type 0) → EndsCut job_end → WhereAnswered job_end Fact
where_cut (Answered status message) Fact h = absurd h
where_cut WithoutMemory Fact h = tt
where_cut InputTooLong Fact h = tt
where_cut FileNotRead Fact h = tt
where_cut ReadFailed Fact h = tt
where_cut WriteFailed Fact h = tt

pub where_unopened : (job_end : JobEnd) (Fact : Type 0) → EndsUnopened job_end → WhereAnswered job_end Fact
where_unopened (Answered status message) Fact h = absurd h
where_unopened WithoutMemory Fact h = tt
where_unopened InputTooLong Fact h = tt
where_unopened FileNotRead Fact h = tt
where_unopened ReadFailed Fact h = tt
where_unopened WriteFailed Fact h = tt

pub cut_unread : (input : List ℕ) (job_end : JobEnd) → EndsCut job_end → EndsUnread input job_end
cut_unread input (Answered status message) h = absurd h
cut_unread input WithoutMemory h = tt
cut_unread input InputTooLong h = absurd h
cut_unread input FileNotRead h = absurd h
cut_unread input ReadFailed h = tt
cut_unread input WriteFailed h = absurd h

pub where_unread : (input : List ℕ) (job_end : JobEnd) (Fact : Type 0) → EndsUnread input job_end
    → WhereAnswered job_end Fact
where_unread input (Answered status message) Fact h = absurd h
where_unread input WithoutMemory Fact h = tt
where_unread input InputTooLong Fact h = tt
where_unread input FileNotRead Fact h = tt
where_unread input ReadFailed Fact h = tt
where_unread input WriteFailed Fact h = tt

-- a job's end by a status of answers leaves the devices unfailed
pub leaves_by : (status : ℕ) (text : List ℕ) (job_end : JobEnd) (reads reads' writes writes' : ℕ) → status ≤ 3
    → EndsBy status text job_end → reads' ≡ reads → writes' ≡ writes
    → LeavesStreams job_end reads reads' writes writes'
leaves_by status text (Answered given message) reads reads' writes writes' small h calm_reads calm_writes =
    record { proper = inl (omega (arith, h.0)); opened = refl; read = omega arith; wrote = omega arith }
leaves_by status text WithoutMemory reads reads' writes writes' small h calm_reads calm_writes =
    record { proper = tt; opened = refl; read = omega arith; wrote = omega arith }
leaves_by status text InputTooLong reads reads' writes writes' small h calm_reads calm_writes = absurd h
leaves_by status text FileNotRead reads reads' writes writes' small h calm_reads calm_writes = absurd h
leaves_by status text ReadFailed reads reads' writes writes' small h calm_reads calm_writes = absurd h
leaves_by status text WriteFailed reads reads' writes writes' small h calm_reads calm_writes = absurd h

-- counts of failures that rose as much have the same end
pub leaves_as : (job_end : JobEnd) (f f' r r' w w' g g' s s' x x' : ℕ) → Leaves job_end f f' r r' w w'
    → g' + f ≡ f' + g → s' + r ≡ r' + s → x' + w ≡ w' + x → Leaves job_end g g' s s' x x'
leaves_as job_end f f' r r' w w' g g' s s' x x' leaves files reads writes = record {
  proper = leaves.proper;
  opened = let rose = leaves.opened in omega arith;
  read = let rose = leaves.read in omega arith;
  wrote = let rose = leaves.wrote in omega arith;
}

-- a job's end by a status and a text has the answer that they are
pub ends_refused : (status : ℕ) (text : List ℕ) (job_end : JobEnd) (before : List ℕ) → EndsBy status text job_end
    → Answers (refusal status text) job_end before before
ends_refused status text (Answered given message) before h = (h, sym (append-nil before))
ends_refused status text WithoutMemory before h = (tt, (0, sym (append-nil before)))
ends_refused status text InputTooLong before h = absurd h
ends_refused status text FileNotRead before h = absurd h
ends_refused status text ReadFailed before h = absurd h
ends_refused status text WriteFailed before h = absurd h

-- the answer of work that read nothing
pub answers_cut : (answer : Answer) (job_end : JobEnd) (before : List ℕ) → EndsCut job_end
    → Answers answer job_end before before
answers_cut answer WithoutMemory before h = (tt, (0, sym (append-nil before)))
answers_cut answer ReadFailed before h = (tt, (0, sym (append-nil before)))
answers_cut answer (Answered status message) before h = absurd h
answers_cut answer InputTooLong before h = absurd h
answers_cut answer FileNotRead before h = absurd h
answers_cut answer WriteFailed before h = absurd h
