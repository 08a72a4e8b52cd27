-- A call of `ick_stages_serve` over devices in memory.
use Rattle.std.proofs.Common.{◌≡◌, inl, inr, ℕ, true, List, [], Some, arith, refl, subst, sym}
use Rattle.std.proofs.lemmas.List.{append-nil}
use Rattle.clap.specs.Words.{Text}
use Rattle.ick_devices.specs.Written.{Written}
use Rattle.ick_job.specs.JobEnd.{source_of}
use Rattle.ick_job.specs.Notice.{notice_text}
use Rattle.ick_job.specs.Serve.{Finishes, memory_failed}
use Rattle.ick_job.specs.Usage.{help_without_memory, refused_without_memory, words_notice}
use Rattle.ick_job.specs.declared.words_fault.WordsFault.TheVariants.{NoMemory}
use Rattle.ick_stages_cli.specs.Gives.{without_memory}
use Rattle.ick_stages_cli.specs.Job.{Wanted}
use Rattle.ick_stages_cli.specs.Tool.{nothing}
use Rattle.ick_c.specs.StagesCall.{ServesStages, StagesServed, source_in}
use Rattle.ick_c.proofs.OutcomesLemmas.{source_there}

-- what any arguments leave if memory ran out before they were read
pub no_stages : (arguments : List Text) (file input : List ℕ) (writer errors errors' : Written) (status : ℕ)
    → Finishes true 4 (notice_text (words_notice NoMemory))
    errors.failures errors'.failures errors.bytes errors'.bytes status
    → ServesStages arguments file input writer writer errors errors' status
no_stages arguments file input writer errors errors' status done = record {
  job = λ has_job. (_, _, without_memory [] (nothing _) refl (sym (append-nil _)), done);
  no_job = λ faults. inl (refl, (_, _, refused_without_memory, done));
  usage = λ mistakes. (refl, (_, _, refused_without_memory, done));
  help = λ requests. (_, _, help_without_memory refl refl, done);
  said = (_, _, memory_failed refl, done);
  failed = λ bad. elim bad [ inl less ↦ absurd (omega arith) | inr less ↦ done.fault less ];
}

-- a job is served over devices that have these bytes
pub stages_from : (job : Wanted) (file file' input input' : List ℕ) (writer writer' errors errors' : Written) (status : ℕ)
    → StagesServed job (source_of job.file (λ text. file') 0 0 input') writer writer' errors errors' status
    → file' ≡ file → input' ≡ input
    → StagesServed job (Some (source_in job file input)) writer writer' errors errors' status
stages_from job file file' input input' writer writer' errors errors' status served same same' =
    subst (λ s. StagesServed job s writer writer' errors errors' status) (source_there job.file file input)
    (subst (λ i. StagesServed job (source_of job.file (λ text. file) 0 0 i) writer writer' errors errors' status) same'
    (subst (λ f. StagesServed job (source_of job.file (λ text. f) 0 0 input') writer writer' errors errors' status) same
    served))
