-- A call of `ick_outcomes_serve` over devices in memory.
use Rattle.std.proofs.Common.{◌≡◌, inl, inr, ℕ, List, Option, Some, None, arith, refl, subst}
use Rattle.std.specs.Prelude.{true, if◌then◌else◌, is_some, option_map}
use Rattle.clap.specs.Words.{Text}
use Rattle.ick_devices.specs.Written.{Written}
use Rattle.ick_job.specs.JobEnd.{source_of}
use Rattle.ick_job.specs.Notice.{notice_text}
use Rattle.ick_job.specs.Serve.{Finishes, memory_failed}
use Rattle.ick_job.specs.Usage.{help_without_memory, refused_without_memory, words_notice}
use Rattle.ick_job.specs.declared.words_fault.WordsFault.TheVariants.{NoMemory}
use Rattle.ick_outcomes_cli.specs.OutcomesEnd.{listing_of}
use Rattle.ick_outcomes_cli.specs.Job.{Wanted}
use Rattle.ick_outcomes_cli.specs.Serve.{as_ick, without_memory}
use Rattle.ick_c.specs.OutcomesCall.{JobServed, ServesOutcomes, listing_in, source_in}

-- what any arguments leave if memory ran out before they were read
pub unserved : (arguments : List Text) (file listing input : List ℕ) (writer errors errors' : Written) (status : ℕ)
    → Finishes true 4 (notice_text (words_notice NoMemory))
    errors.failures errors'.failures errors.bytes errors'.bytes status
    → ServesOutcomes arguments file listing input writer writer errors errors' status
unserved arguments file listing input writer errors errors' status done = record {
  job = λ has_job. (_, _, without_memory refl refl, done);
  no_job = λ faults. inl (refl, (_, _, refused_without_memory, done));
  usage = λ mistakes. (refl, (_, _, refused_without_memory, done));
  help = λ requests. (_, _, help_without_memory refl refl, done);
  said = (_, _, as_ick _ _ (memory_failed refl), done);
  failed = λ bad. elim bad [ inl less ↦ absurd (omega arith) | inr less ↦ done.fault less ];
}

pub source_there : (name : Option Text) (file input : List ℕ) →
    source_of name (λ text. file) 0 0 input ≡ Some (if is_some name then file else input)
source_there None file input = refl
source_there (Some text) file input = refl

listing_there : (name : Option Text) (listing : List ℕ) →
    listing_of name (λ text. listing) 0 0 ≡ option_map (λ text. listing) name
listing_there None listing = refl
listing_there (Some text) listing = refl

-- a job over memory has its source and its listing
pub served_there : (job : Wanted) (file listing input : List ℕ) (writer writer' errors errors' : Written) (status : ℕ)
    → JobServed job (source_of job.file (λ text. file) 0 0 input) (listing_of job.listing (λ text. listing) 0 0) input
    writer writer' errors errors' status
    → JobServed job (Some (source_in job file input)) (listing_in job listing) input
    writer writer' errors errors' status
served_there job file listing input writer writer' errors errors' status served =
    subst (λ l. JobServed job (Some (source_in job file input)) l input writer writer' errors errors' status)
    (listing_there job.listing listing)
    (subst (λ s. JobServed job s (listing_of job.listing (λ text. listing) 0 0) input
    writer writer' errors errors' status) (source_there job.file file input) served)

-- the same, of devices that have these bytes
pub served_from : (job : Wanted) (file file' listing listing' input input' : List ℕ)
    (writer writer' errors errors' : Written) (status : ℕ)
    → JobServed job (source_of job.file (λ text. file') 0 0 input') (listing_of job.listing (λ text. listing') 0 0) input'
    writer writer' errors errors' status
    → file' ≡ file → listing' ≡ listing → input' ≡ input
    → JobServed job (Some (source_in job file input)) (listing_in job listing) input
    writer writer' errors errors' status
served_from job file file' listing listing' input input' writer writer' errors errors' status served same same' same'' =
    served_there job file listing input writer writer' errors errors' status
    (subst (λ i. JobServed job (source_of job.file (λ text. file) 0 0 i) (listing_of job.listing (λ text. listing) 0 0) i
    writer writer' errors errors' status) same''
    (subst (λ l. JobServed job (source_of job.file (λ text. file) 0 0 input') (listing_of job.listing (λ text. l) 0 0)
    input' writer writer' errors errors' status) same'
    (subst (λ f. JobServed job (source_of job.file (λ text. f) 0 0 input') (listing_of job.listing (λ text. listing') 0 0)
    input' writer writer' errors errors' status) same served)))
