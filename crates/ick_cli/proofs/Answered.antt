-- An answer to a source, and the job's end that has it.
use Rattle.std.proofs.Common.{◌≡◌, ◌<◌, ◌==◌, ℕ, Bool, List, [], Option, Some, None, ap₂, length}
use Rattle.std.proofs.Common.{◌+◌, refl, sym, subst, arith, take, if◌then◌else◌, eq-eqb, ne_eqb, true, false}
use Rattle.std.proofs.lemmas.List.{append-nil, length-take, take_all}
use Rattle.ick_bits.specs.Faults.{message_of}
use Rattle.ick_bits.specs.declared.faults.FaultKind.{FaultKind}
use Rattle.ick_source.specs.RefusalAnswers.{IsOnlyRefused}
use Rattle.ick_source.specs.Refusals.{Compiles, IsRefused, longest}
use Rattle.ick_syntax.specs.StatementTree.{StatementTree}
use Rattle.ick_job.specs.JobEnd.{Answers, EndsBy, failed_files, input_of, source_of}
use Rattle.ick_job.specs.Input.{EndsUnopened}
use Rattle.ick_cli.specs.Job.{Task}
use Rattle.ick_job.specs.Notice.{notice_text}
use Rattle.ick_job.specs.Answer.{Answer, refusal}
use Rattle.ick_cli.specs.Tool.{IsExecuted, IsProgramAnswer, IsReadAnswer, IsSourceAnswer, IsToolAnswer, compiled}
use Rattle.ick_cli.specs.Tool.{executed, not_read, read, refused, too_long}
use Rattle.ick_job.specs.declared.job_end.JobEnd.{JobEnd}
use Rattle.ick_job.specs.declared.job_end.JobEnd.TheVariants.{Answered, NoMemory, InputTooLong, FileNotRead, ReadFailed}
use Rattle.ick_job.specs.declared.job_end.JobEnd.TheVariants.{WriteFailed}
use Rattle.ick_job.specs.declared.notice.Notice.TheVariants as notice
use Rattle.ick_cli.specs.declared.plan.Plan.{Plan}
use Rattle.ick_cli.specs.declared.plan.Plan.TheVariants.{Execute}
use Rattle.ick_cli.specs.declared.plan.Runs.{Runs}
use Rattle.ick_job.proofs.Ends.{ends_refused}

-- the answer to a source that compiles is that of its program
pub source_program : (plan : Plan) (source input : List ℕ) (trees : List StatementTree) → Compiles source trees
    → ((others : List StatementTree) → Compiles source others → others ≡ trees)
    → ((kind : FaultKind) (n : ℕ) → IsRefused source kind n → ⊥)
    → (answer : Answer) → IsSourceAnswer plan source input answer → IsProgramAnswer trees input plan answer
source_program plan source input trees compiles only not_refused answer (too_long h) =
    let fits = compiles.fits in absurd (omega arith)
source_program plan source input trees compiles only not_refused answer (refused kind n h) =
    absurd (not_refused kind n h)
source_program plan source input trees compiles only not_refused answer (compiled others given h is) =
    subst (λ (ts : List StatementTree). IsProgramAnswer ts input plan answer) (only others h) is

pub long_answer : (plan : Plan) (source input : List ℕ) → longest < length source
    → (answer : Answer) → IsSourceAnswer plan source input answer
    → refusal 2 (notice_text notice.SourceTooLong) ≡ answer
long_answer plan source input long answer (too_long h) = refl
long_answer plan source input long answer (refused kind n h) = let fits = h.fits in absurd (omega arith)
long_answer plan source input long answer (compiled trees given h is) = let fits = h.fits in absurd (omega arith)

refused_answer : (plan : Plan) (source input : List ℕ) (kind : FaultKind) (n : ℕ) → IsOnlyRefused source kind n
    → (answer : Answer) → IsSourceAnswer plan source input answer → refusal 2 (message_of kind n []) ≡ answer
refused_answer plan source input kind n is answer (too_long h) = let fits = is.refused.fits in absurd (omega arith)
refused_answer plan source input kind n is answer (refused other m h) =
    let same = is.only other m h in ap₂ (λ k i. refusal 2 (message_of k i [])) (sym same.0) (sym same.1)
refused_answer plan source input kind n is answer (compiled trees given h program) = absurd (is.no_program trees h)

pub answered_refusal : (plan : Plan) (source input : List ℕ) (kind : FaultKind) (n : ℕ) (job_end : JobEnd)
    (before : List ℕ) → IsOnlyRefused source kind n
    → EndsBy 2 (message_of kind n []) job_end
    → (answer : Answer) → IsSourceAnswer plan source input answer → Answers answer job_end before before
answered_refusal plan source input kind n job_end before is ends answer h =
    subst (λ (a : Answer). Answers a job_end before before) (refused_answer plan source input kind n is answer h)
    (ends_refused 2 (message_of kind n []) job_end before ends)

-- the front of a source has the answer of the whole, where it is long enough to show what is too long
pub answer_of_front : (plan : Plan) (most : ℕ) (source input : List ℕ) → longest < most → (answer : Answer)
    → IsSourceAnswer plan source input answer
    → IsSourceAnswer plan (take most source) input answer
answer_of_front plan most source input long answer (too_long h) =
    too_long (let front = length-take most source in omega arith)
answer_of_front plan most source input long answer (refused kind n h) =
    refused kind n (subst (λ (t : List ℕ). IsRefused t kind n)
    (sym (take_all most source (let fits = h.fits in omega arith))) h)
answer_of_front plan most source input long answer (compiled trees given h is) =
    compiled trees answer
    (subst (λ (t : List ℕ). Compiles t trees) (sym (take_all most source (let fits = h.fits in omega arith))) h) is

pub source_read : (plan : Plan) (input source : List ℕ) (answer : Answer)
    → IsReadAnswer plan input (Some source) answer
    → IsSourceAnswer plan source input answer
source_read plan input source answer (read same given h) = h

-- the source of a job whose file was read, and of one whose file was not
pub read_source_of : (plan : Plan) (source input : List ℕ) (failed failed' : ℕ) → failed' ≡ failed
    → (answer : Answer)
    → IsReadAnswer plan input (if failed == failed' then Some source else None) answer
    → IsSourceAnswer plan source input answer
read_source_of plan source input failed failed' same answer h =
    let unread : (failed == failed') ≡ true = eq-eqb failed failed' (sym same) in
    source_read plan input source answer
    (subst (λ (b : Bool). IsReadAnswer plan input (if b then Some source else None) answer) unread h)

no_source : (plan : Plan) (input : List ℕ) (answer : Answer) → IsReadAnswer plan input None answer
    → refusal 4 (notice_text notice.FileNotRead) ≡ answer
no_source plan input answer not_read = refl

pub answers_unopened : (plan : Plan) (source input : List ℕ) (failed failed' : ℕ) (job_end : JobEnd) (before : List ℕ)
    → EndsUnopened job_end → failed' ≡ failed + failed_files job_end → (answer : Answer)
    → IsReadAnswer plan input (if failed == failed' then Some source else None) answer
    → Answers answer job_end before before
answers_unopened plan source input failed failed' FileNotRead before h count answer is =
    let other : (failed == failed') ≡ false = ne_eqb failed failed' (λ e. omega arith) in
    subst (λ (a : Answer). Answers a FileNotRead before before)
    (no_source plan input answer
    (subst (λ (b : Bool). IsReadAnswer plan input (if b then Some source else None) answer) other is))
    ((refl, refl), sym (append-nil before))
answers_unopened plan source input failed failed' NoMemory before h count answer is =
    (tt, (0, sym (append-nil before)))
answers_unopened plan source input failed failed' (Answered status message) before h count answer is = absurd h
answers_unopened plan source input failed failed' InputTooLong before h count answer is = absurd h
answers_unopened plan source input failed failed' ReadFailed before h count answer is = absurd h
answers_unopened plan source input failed failed' WriteFailed before h count answer is = absurd h

-- the answer of a program's runs is that of the code that was compiled
pub executed_so : (trees program : List StatementTree) (input : List ℕ) (runs : Runs) (answer : Answer)
    → program ≡ trees → IsProgramAnswer trees input (Execute runs) answer → IsExecuted program input runs answer
executed_so trees program input runs answer from (executed same given h) =
    subst (λ (p : List StatementTree). IsExecuted p input runs answer) (sym from) h

-- the answer to a task by the file that it names, or where it names none
pub file_named : (task : Task) (file : Option (List ℕ)) (name : List ℕ) (named : List ℕ → List ℕ)
    (failed failed' : ℕ) (left : List ℕ) (answer : Answer)
    → file ≡ Some name → IsToolAnswer task (source_of file named failed failed' left) (input_of file left) answer
    → IsToolAnswer task (source_of (Some name) named failed failed' []) left answer
file_named task file name named failed failed' left answer is h =
    subst (λ (f : Option (List ℕ)). IsToolAnswer task (source_of f named failed failed' left)
    (input_of f left) answer) is h

pub file_unnamed : (task : Task) (file : Option (List ℕ)) (named : List ℕ → List ℕ) (failed failed' : ℕ)
    (left : List ℕ) (answer : Answer)
    → file ≡ None → IsToolAnswer task (source_of file named failed failed' left) (input_of file left) answer
    → IsToolAnswer task (Some left) [] answer
file_unnamed task file named failed failed' left answer is h =
    subst (λ (f : Option (List ℕ)). IsToolAnswer task (source_of f named failed failed' left)
    (input_of f left) answer) is h
