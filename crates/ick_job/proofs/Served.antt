-- From how the job ends to what the whole call leaves.
use Rattle.std.proofs.Common.{◌≡◌, ◌∙◌, ◌<◌, ◌++◌, ◌⊎◌, inl, inr, ℕ, Bool, List, ap, refl, sym, subst}
use Rattle.std.proofs.Common.{arith}
use Rattle.std.proofs.lemmas.Bool.{cases_order}
use Rattle.ick_job.specs.JobEnd.{Answers, Leaves, WhereAnswered, job_end_status, job_end_text, message_text}
use Rattle.ick_job.specs.Serve.{Failures, Finishes, FinishesDue, IsDue, IsServed, IsStatus, counts, nothing_failed}
use Rattle.ick_job.specs.Serve.{file_failed, read_failed, write_failed, input_long, memory_failed, answered}
use Rattle.ick_job.specs.Serve.{cut_by_read, cut_by_write, cut_by_memory, IsLineDue, line_due}
use Rattle.ick_job.specs.Notice.{notice_text}
use Rattle.ick_job.specs.Answer.{Answer}
use Rattle.ick_job.specs.Usage.{IsHelped, help_cut, help_without_memory, helped}
use Rattle.ick_job.specs.declared.notice.Message.TheVariants as message
use Rattle.ick_job.specs.declared.notice.Notice.{Notice}
use Rattle.ick_job.specs.declared.job_end.JobEnd.{JobEnd}
use Rattle.ick_job.specs.declared.job_end.JobEnd.TheVariants.{Answered, NoMemory, InputTooLong, FileNotRead, ReadFailed}
use Rattle.ick_job.specs.declared.job_end.JobEnd.TheVariants.{WriteFailed}

-- counts that are the same one by one
pub same_counts : (f f' r r' w w' : ℕ) → f' ≡ f → r' ≡ r → w' ≡ w → counts f' r' w' ≡ counts f r w
same_counts f f' r r' w w' a b c = cc

-- what is due to a job's end
pub due : (job_end : JobEnd) (f f' r r' w w' : ℕ) → Leaves job_end f f' r r' w w'
    → IsDue (counts f r w) (counts f' r' w') (job_end_text job_end) (job_end_status job_end)
due (Answered status message) f f' r r' w w' x =
    nothing_failed (message_text message) status
    (same_counts _ _ _ _ _ _ (omega (arith, x.opened)) (omega (arith, x.read)) (omega (arith, x.wrote)))
    x.proper
due NoMemory f f' r r' w w' x =
    memory_failed (same_counts _ _ _ _ _ _ (omega (arith, x.opened)) (omega (arith, x.read)) (omega (arith, x.wrote)))
due InputTooLong f f' r r' w w' x =
    input_long (same_counts _ _ _ _ _ _ (omega (arith, x.opened)) (omega (arith, x.read)) (omega (arith, x.wrote)))
due FileNotRead f f' r r' w w' x =
    file_failed (same_counts _ _ _ _ _ _ (omega (arith, x.opened)) (omega (arith, x.read)) (omega (arith, x.wrote)))
due ReadFailed f f' r r' w w' x =
    read_failed (same_counts _ _ _ _ _ _ (omega (arith, x.opened)) (omega (arith, x.read)) (omega (arith, x.wrote)))
due WriteFailed f f' r r' w w' x =
    write_failed (same_counts _ _ _ _ _ _ (omega (arith, x.opened)) (omega (arith, x.read)) (omega (arith, x.wrote)))

-- an error text and a status that are the answer's
all_answered : (answer : Answer) (old new : Failures) (out out' text : List ℕ) (status : ℕ)
    → status ≡ answer.status
    → text ≡ answer.errors
    → new.reads ≡ old.reads → new.writes ≡ old.writes → out' ≡ out ++ answer.output
    → IsServed answer old new out out' text status
all_answered answer old new out out' text status has_status has_text reads writes sends =
    subst (λ (t : List ℕ). IsServed answer old new out out' t status) (sym has_text)
    (subst (λ (s : ℕ). IsServed answer old new out out' answer.errors s) (sym has_status)
    (answered reads writes sends))

-- how an answer is served by a job's end that has it
pub served : (answer : Answer) (job_end : JobEnd) (f f' r r' w w' : ℕ) (out out' : List ℕ)
    → Leaves job_end f f' r r' w w' → Answers answer job_end out out'
    → IsServed answer (counts f r w) (counts f' r' w') out out' (job_end_text job_end) (job_end_status job_end)
served answer (Answered status message) f f' r r' w w' out out' x has =
    all_answered answer _ _ out out' _ _ has.0.0 has.0.1 (omega (arith, x.read)) (omega (arith, x.wrote)) has.1
served answer InputTooLong f f' r r' w w' out out' x has =
    all_answered answer _ _ out out' _ _ has.0.0 has.0.1 (omega (arith, x.read)) (omega (arith, x.wrote)) has.1
served answer FileNotRead f f' r r' w w' out out' x has =
    all_answered answer _ _ out out' _ _ has.0.0 has.0.1 (omega (arith, x.read)) (omega (arith, x.wrote)) has.1
served answer NoMemory f f' r r' w w' out out' x has =
    cut_by_memory has.1.0
    (same_counts _ _ _ _ _ _ (omega (arith, x.opened)) (omega (arith, x.read)) (omega (arith, x.wrote))) has.1.1
served answer ReadFailed f f' r r' w w' out out' x has =
    cut_by_read has.1.0 (same_counts _ _ _ _ _ _ (omega (arith, x.opened)) (omega (arith, x.read))
    (omega (arith, x.wrote))) has.1.1
served answer WriteFailed f f' r r' w w' out out' x has =
    cut_by_write has.1.0 (same_counts _ _ _ _ _ _ (omega (arith, x.opened)) (omega (arith, x.read))
    (omega (arith, x.wrote))) has.1.1

-- a status that isn't 4 is that of an answer
answered_by : (job_end : JobEnd) (Fact : Type 0) → (job_end_status job_end ≡ 4 → ⊥) → WhereAnswered job_end Fact → Fact
answered_by (Answered status message) Fact other h = h
answered_by NoMemory Fact other h = absurd (other refl)
answered_by InputTooLong Fact other h = absurd (other refl)
answered_by FileNotRead Fact other h = absurd (other refl)
answered_by ReadFailed Fact other h = absurd (other refl)
answered_by WriteFailed Fact other h = absurd (other refl)

pub four_by : (told : Bool) (status : ℕ) (text : List ℕ) (e e' : ℕ) (errs errs' : List ℕ) (code : ℕ)
    → Finishes told status text e e' errs errs' code → status ≡ 4 → code ≡ 4
four_by told status text e e' errs errs' code done four = elim (cases_order e' e) [
  | inl same ↦ let given = (done.whole same).0 in omega arith
  | inr (inl less) ↦ let grows = done.grows in absurd (omega arith)
  | inr (inr more) ↦ done.fault more
]

pub was_answered : (told : Bool) (job_end : JobEnd) (e e' : ℕ) (errs errs' : List ℕ) (code : ℕ) (Fact : Type 0)
    → Finishes told (job_end_status job_end) (job_end_text job_end) e e' errs errs' code → (code ≡ 4 → ⊥)
    → WhereAnswered job_end Fact → Fact
was_answered told job_end e e' errs errs' code Fact done other h =
    answered_by job_end Fact (λ four. other (four_by told _ _ e e' errs errs' code done four)) h

pub without_memory : (told : Bool) (text : List ℕ) (e e' : ℕ) (errs errs' : List ℕ) (code : ℕ) (Fact : Type 0)
    → Finishes told 4 text e e' errs errs' code → (code ≡ 4 → ⊥) → Fact
without_memory told text e e' errs errs' code Fact done other =
    absurd (other (four_by told 4 text e e' errs errs' code done refl))

-- a device failed
abbrev pub SomeFailed : Failures → Failures → Type 0
SomeFailed old new = (old.files < new.files) ⊎ (old.reads < new.reads) ⊎ (old.writes < new.writes)

none_failed : (old new : Failures) → new ≡ old → SomeFailed old new → ⊥
none_failed old new same (inl h) = let e = ap (λ (f : Failures). f.files) same in omega arith
none_failed old new same (inr (inl h)) = let e = ap (λ (f : Failures). f.reads) same in omega arith
none_failed old new same (inr (inr h)) = let e = ap (λ (f : Failures). f.writes) same in omega arith

four_due : (old new : Failures) (text : List ℕ) (status : ℕ) → IsDue old new text status → SomeFailed old new
    → status ≡ 4
four_due old new text status (nothing_failed t s same one) some = absurd (none_failed old new same some)
four_due old new text status (file_failed e) some = refl
four_due old new text status (read_failed e) some = refl
four_due old new text status (write_failed e) some = refl
four_due old new text status (input_long e) some = refl
four_due old new text status (memory_failed e) some = refl

-- where a device failed, or the error text wasn't written, the status is 4
pub failed_due : (old new : Failures) (told : Bool) (e e' : ℕ) (errs errs' : List ℕ) (code : ℕ)
    → FinishesDue (IsDue old new) told e e' errs errs' code
    → (old.files < new.files) ⊎ (old.reads < new.reads) ⊎ (old.writes < new.writes) ⊎ (e < e') → code ≡ 4
failed_due old new told e e' errs errs' code due bad = elim bad [
  | inl file ↦ four_by _ _ _ _ _ _ _ _ due.3 (four_due old new _ _ due.2 (inl file))
  | inr (inl read) ↦ four_by _ _ _ _ _ _ _ _ due.3 (four_due old new _ _ due.2 (inr (inl read)))
  | inr (inr (inl write)) ↦ four_by _ _ _ _ _ _ _ _ due.3 (four_due old new _ _ due.2 (inr (inr write)))
  | inr (inr (inr more)) ↦ due.3.fault more
]

status_due : (old new : Failures) (text : List ℕ) (status : ℕ) → IsDue old new text status → IsStatus status
status_due old new text status (nothing_failed t s same (inl low)) = inl (omega arith)
status_due old new text status (nothing_failed t s same (inr usage)) = inr usage
status_due old new text status (file_failed e) = inl (omega arith)
status_due old new text status (read_failed e) = inl (omega arith)
status_due old new text status (write_failed e) = inl (omega arith)
status_due old new text status (input_long e) = inl (omega arith)
status_due old new text status (memory_failed e) = inl (omega arith)

pub finished_status : (old new : Failures) (told : Bool) (e e' : ℕ) (errs errs' : List ℕ) (code : ℕ)
    → FinishesDue (IsDue old new) told e e' errs errs' code → IsStatus code
finished_status old new told e e' errs errs' code due = elim (cases_order e' e) [
  | inl same ↦ subst IsStatus (sym (due.3.whole same).0) (status_due old new due.0 due.1 due.2)
  | inr (inl less) ↦ let grows = due.3.grows in absurd (omega arith)
  | inr (inr more) ↦ let four = due.3.fault more in inl (omega arith)
]

-- what is due to a job that ended by its line
pub line_finished : (told : Bool) (line : Notice) (job_end : JobEnd) (e e' : ℕ) (errs errs' : List ℕ) (code : ℕ)
    → job_end ≡ Answered 64 (message.Notice line)
    → Finishes told (job_end_status job_end) (job_end_text job_end) e e' errs errs' code
    → FinishesDue (IsLineDue line) told e e' errs errs' code
line_finished told line job_end e e' errs errs' code is done = (
  notice_text line,
  64,
  line_due,
  subst (λ (x : JobEnd). Finishes told (job_end_status x) (job_end_text x)
      e e' errs errs' code) is done,
)

-- the status of help
pub help_status : (told told' : Bool) (failed failed' : ℕ) (before after : List ℕ) (e e' : ℕ) (errs errs' : List ℕ)
    (code : ℕ) → FinishesDue (IsHelped told failed failed' before after) told' e e' errs errs' code
    → (code ≡ 0) ⊎ (code ≡ 4)
help_status told told' failed failed' before after e e' errs errs' code due = elim (cases_order e' e) [
  | inl same ↦ elim (helped_status due.0 due.1 due.2) [
    | inl nought ↦ inl ((due.3.whole same).0 ∙ nought)
    | inr four ↦ inr ((due.3.whole same).0 ∙ four)
  ]
  | inr (inl less) ↦ let grows = due.3.grows in absurd (omega arith)
  | inr (inr more) ↦ inr (due.3.fault more)
]
  where
    helped_status : (text : List ℕ) (status : ℕ) → IsHelped told failed failed' before after text status
        → (status ≡ 0) ⊎ (status ≡ 4)
    helped_status text status (helped t calm all) = inl refl
    helped_status text status (help_cut t more cut) = inr refl
    helped_status text status (help_without_memory calm none) = inr refl
