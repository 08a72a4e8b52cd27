-- A call of `ick_step_serve` over devices in memory.
use Rattle.std.proofs.Common.{◌≡◌, inl, inr, ℕ, List, [], Option, Some, None, arith, refl, subst}
use Rattle.std.specs.Prelude.{true, if◌then◌else◌, is_some}
use Rattle.std.specs.Option.{option_map_or}
use Rattle.clap.specs.Words.{Text}
use Rattle.ick_devices.specs.Written.{Written}
use Rattle.ick_job.specs.JobEnd.{source_of}
use Rattle.ick_job.specs.Notice.{notice_text}
use Rattle.ick_job.specs.Serve.{Finishes, memory_failed}
use Rattle.ick_job.specs.Usage.{help_without_memory, refused_without_memory, words_notice}
use Rattle.ick_job.specs.declared.words_fault.WordsFault.TheVariants.{NoMemory}
use Rattle.ick_step_cli.specs.Job.{Wanted}
use Rattle.ick_step_cli.specs.Serve.{cut_by_memory, unwritten}
use Rattle.ick_step_cli.specs.Tool.{input_of}
use Rattle.ick_c.specs.StepCall.{ServesStep, StepServed, input_in, source_in}

-- what any arguments leave if memory ran out before they were read
pub no_step : (arguments : List Text) (file input commands : List ℕ) (writer errors errors' : Written) (status : ℕ)
    → Finishes true 4 (notice_text (words_notice NoMemory))
    errors.failures errors'.failures errors.bytes errors'.bytes status
    → ServesStep arguments file input commands writer writer errors errors' status
no_step arguments file input commands writer errors errors' status done = record {
  job = λ has_job. (_, _, cut_by_memory refl (unwritten refl), done);
  no_job = λ faults. inl (refl, (_, _, refused_without_memory, done));
  usage = λ mistakes. (refl, (_, _, refused_without_memory, done));
  help = λ requests. (_, _, help_without_memory refl refl, done);
  said = (_, _, memory_failed refl, done);
  failed = λ bad. elim bad [ inl less ↦ absurd (omega arith) | inr less ↦ done.fault less ];
}

step_source : (name : Option Text) (file commands : List ℕ) →
    source_of name (λ text. file) 0 0 commands ≡ Some (if is_some name then file else commands)
step_source None file commands = refl
step_source (Some text) file commands = refl

step_input : (name : Option Text) (input : List ℕ) →
    input_of name (λ text. input) 0 0 ≡ Some (option_map_or (λ text. input) name [])
step_input None input = refl
step_input (Some text) input = refl

-- a job over memory has its source and its input
step_there : (job : Wanted) (file input commands : List ℕ) (writer writer' errors errors' : Written) (status : ℕ)
    → StepServed job (source_of job.file (λ text. file) 0 0 commands) (input_of job.input (λ text. input) 0 0) commands
    writer writer' errors errors' status
    → StepServed job (Some (source_in job file commands)) (Some (input_in job input)) commands
    writer writer' errors errors' status
step_there job file input commands writer writer' errors errors' status served =
    subst (λ i. StepServed job (Some (source_in job file commands)) i commands writer writer' errors errors' status)
    (step_input job.input input)
    (subst (λ s. StepServed job s (input_of job.input (λ text. input) 0 0) commands
    writer writer' errors errors' status) (step_source job.file file commands) served)

-- the same, of devices that have these bytes
pub step_from : (job : Wanted) (file file' input input' commands commands' : List ℕ)
    (writer writer' errors errors' : Written) (status : ℕ)
    → StepServed job (source_of job.file (λ text. file') 0 0 commands') (input_of job.input (λ text. input') 0 0)
    commands' writer writer' errors errors' status
    → file' ≡ file → input' ≡ input → commands' ≡ commands
    → StepServed job (Some (source_in job file commands)) (Some (input_in job input)) commands
    writer writer' errors errors' status
step_from job file file' input input' commands commands' writer writer' errors errors' status served same same' same'' =
    step_there job file input commands writer writer' errors errors' status
    (subst (λ l. StepServed job (source_of job.file (λ text. file) 0 0 l) (input_of job.input (λ text. input) 0 0) l
    writer writer' errors errors' status) same''
    (subst (λ i. StepServed job (source_of job.file (λ text. file) 0 0 commands') (input_of job.input (λ text. i) 0 0)
    commands' writer writer' errors errors' status) same'
    (subst (λ f. StepServed job (source_of job.file (λ text. f) 0 0 commands') (input_of job.input (λ text. input') 0 0)
    commands' writer writer' errors errors' status) same served)))
