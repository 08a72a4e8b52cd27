-- From what is served over memory to what bytes leave.
use Rattle.std.proofs.Common.{◌≡◌, inl, inr, ℕ, true, List, Some, arith, refl, subst, sym}
use Rattle.std.proofs.lemmas.List.{append-nil}
use Rattle.clap.specs.Words.{Text}
use Rattle.ick_devices.specs.Written.{Written}
use Rattle.ick_job.specs.Answer.{Answer}
use Rattle.ick_job.specs.JobEnd.{input_of, source_of}
use Rattle.ick_cli.specs.Job.{Asked, job_of}
use Rattle.ick_cli.specs.Laws.{OneAnswer}
use Rattle.ick_cli.specs.Tool.{IsToolAnswer}
use Rattle.ick_job.specs.Notice.{notice_text}
use Rattle.ick_job.specs.Serve.{Finishes, cut_by_memory, memory_failed}
use Rattle.ick_job.specs.Usage.{help_without_memory, refused_without_memory, words_notice, words_status}
use Rattle.ick_job.specs.declared.words_fault.WordsFault.{WordsFault}
use Rattle.ick_job.specs.declared.words_fault.WordsFault.TheVariants.{NoMemory, NotText}
use Rattle.ick_c.specs.Arguments.{Holds}
use Rattle.ick_c.specs.Call.{OfBytes, Serves, nothing, source_in}
use Rattle.ick_c.proofs.ArgumentLemmas.{same_held}
use Rattle.ick_c.proofs.OutcomesLemmas.{source_there}

-- what any arguments leave if memory ran out before they were read
pub without_memory : OneAnswer → (arguments : List Text) (file input : List ℕ) (writer errors errors' : Written)
    (status : ℕ)
    → Finishes true 4 (notice_text (words_notice NoMemory))
    errors.failures errors'.failures errors.bytes errors'.bytes status
    → Serves arguments file input writer writer errors errors' status
without_memory law arguments file input writer errors errors' status done =
    let job = job_of arguments in
    let found = law job.task (Some (source_in job file input)) (input_of job.file input) in
    record {
      job = λ has_job. (found.0, found.1, (_, _, cut_by_memory 0 refl (sym (append-nil _)), done));
      no_job = λ faults. inl (refl, (_, _, refused_without_memory, done));
      usage = λ mistakes. (refl, (_, _, refused_without_memory, done));
      help = λ requests. (_, _, help_without_memory refl refl, done);
      said = (_, _, memory_failed refl, done);
      failed = λ bad. elim bad [ inl less ↦ absurd (omega arith) | inr less ↦ done.fault less ];
    }

-- what bytes leave whose arguments were not read
pub not_read : (Leaves : List Text → Type 0) (bytes : List ℕ) (writer errors errors' : Written) (fault : WordsFault)
    (status : ℕ) → (fault ≡ NotText → (arguments : List Text) → ¬ Holds bytes arguments)
    → (fault ≡ NoMemory → (arguments : List Text) × Holds bytes arguments)
    → Finishes true (words_status fault) (notice_text (words_notice fault))
    errors.failures errors'.failures errors.bytes errors'.bytes status
    → (Finishes true 4 (notice_text (words_notice NoMemory))
    errors.failures errors'.failures errors.bytes errors'.bytes status → (arguments : List Text) → Leaves arguments)
    → OfBytes Leaves bytes writer writer errors errors' status
not_read Leaves bytes writer errors errors' NoMemory status none some done short = record {
  held = λ arguments held. short done arguments;
  unread = λ unheld. let found = some refl in absurd (unheld found.0 found.1);
}
not_read Leaves bytes writer errors errors' NotText status none some done short = record {
  held = λ arguments held. absurd (none refl arguments held);
  unread = λ unheld. (refl, done);
}

-- what bytes leave whose arguments were served
pub read : (Leaves : List Text → Type 0) (bytes : List ℕ) (writer writer' errors errors' : Written) (status : ℕ)
    (arguments : List Text) → Holds bytes arguments → Leaves arguments
    → OfBytes Leaves bytes writer writer' errors errors' status
read Leaves bytes writer writer' errors errors' status arguments holds leaves = record {
  held = λ others held. subst Leaves (same_held bytes others arguments held holds) leaves;
  unread = λ unheld. absurd (unheld arguments holds);
}

-- what is left over two sinks that are new, with the same status
pub from_nothing : (Leaves : Written → Written → ℕ → Type 0) (writer errors : Written) (status code : ℕ)
    → writer ≡ nothing → errors ≡ nothing → code ≡ status → Leaves writer errors status → Leaves nothing nothing code
from_nothing Leaves writer errors status code none none' same leaves =
    subst (λ (w : Written). Leaves w nothing code) none
    (subst (λ (w : Written). Leaves writer w code) none'
    (subst (λ (n : ℕ). Leaves writer errors n) (sym same) leaves))

-- the tool's answer over devices that have these bytes
pub tool_from : (job : Asked) (file file' input input' : List ℕ) (answer : Answer)
    → IsToolAnswer job.task (source_of job.file (λ text. file') 0 0 input') (input_of job.file input') answer
    → file' ≡ file → input' ≡ input
    → IsToolAnswer job.task (Some (source_in job file input)) (input_of job.file input) answer
tool_from job file file' input input' answer is same same' =
    subst (λ s. IsToolAnswer job.task s (input_of job.file input) answer) (source_there job.file file input)
    (subst (λ i. IsToolAnswer job.task (source_of job.file (λ text. file) 0 0 i) (input_of job.file i) answer) same'
    (subst (λ f. IsToolAnswer job.task (source_of job.file (λ text. f) 0 0 input') (input_of job.file input') answer) same
    is))
