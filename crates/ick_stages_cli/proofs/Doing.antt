-- From what the work of a job leaves to what the whole call leaves.
use Rattle.std.proofs.Common.{◌≡◌, ◌∙◌, ◌<◌, true, false, ℕ, List, [], subst, sym}
use Rattle.std.proofs.lemmas.List.{append-nil}
use Rattle.clap.specs.Words.{Text, fault_of}
use Rattle.ick_job.specs.JobEnd.{Leaves, WhereAnswered, job_end_status, job_end_text, source_of}
use Rattle.ick_job.specs.Program.{DoesJob, Files, Reports, ServesArguments, Stream, failures_after}
use Rattle.ick_job.specs.Program.{failures_before}
use Rattle.ick_job.specs.Serve.{Finishes, IsDue}
use Rattle.ick_job.specs.declared.job_end.JobEnd.{JobEnd}
use Rattle.ick_job.proofs.Programs.{MayRunOut, RanOut}
use Rattle.ick_job.proofs.Served.{due, failed_due, finished_status, was_answered}
use Rattle.ick_stages_cli.specs.Gives.{Gives, without_memory}
use Rattle.ick_stages_cli.specs.Job.{Wanted, has_file, job_of}
use Rattle.ick_stages_cli.specs.Program.{left_by, stages, stages_job}
use Rattle.ick_stages_cli.specs.Tool.{IsStagesAnswer, MayShow, nothing}
use Rattle.ick_stages_cli.specs.Words.{stages_app}
use Rattle.ick_stages_cli.proofs.Serving.{stages_served}

-- what work leaves over devices
pub record Performed {F R W : Type 0} (w : Wanted) (files : Files F) (reader : Stream R) (writer : Stream W)
    (job_end : JobEnd) : Type 0 where
  pub leaves : Leaves job_end files.failed_before files.failed_after reader.failed_before reader.failed_after
      writer.failed_before writer.failed_after
  pub gives : files.told ≡ true → reader.told ≡ true → writer.told ≡ true → Gives
      (IsStagesAnswer w (source_of w.file files.bytes files.failed_before files.failed_after reader.bytes.before))
      (MayShow w (source_of w.file files.bytes files.failed_before files.failed_after reader.bytes.before))
      job_end writer.bytes.before writer.bytes.after
  pub left : files.told ≡ true → reader.told ≡ true
      → WhereAnswered job_end (reader.bytes.after ≡ left_by w.file reader.bytes.before)
  pub reader_kept : has_file w ≡ true → reader.new ≡ reader.old
  pub files_kept : has_file w ≡ false → files.new ≡ files.old
  pub source_first : has_file w ≡ false → reader.failed_before < reader.failed_after → writer.new ≡ writer.old

-- a job is done whose end was reported
does : {F R W E : Type 0} (w : Wanted) (files : Files F) (reader : Stream R) (writer : Stream W)
    (errors : Stream E) (status : ℕ) (job_end : JobEnd) → Performed w files reader writer job_end
    → Finishes errors.told (job_end_status job_end) (job_end_text job_end) errors.failed_before errors.failed_after
    errors.bytes.before errors.bytes.after status
    → DoesJob (stages_job w files reader.bytes.before) files reader writer errors status
does w files reader writer errors status job_end work said = record {
  done = λ files_told reader_told writer_told. (
    _,
    _,
    stages_served job_end _ _ _ _ _ _ _ _ work.leaves (work.gives files_told reader_told writer_told),
    said,
  );
  left = λ files_told reader_told other.
      was_answered errors.told job_end _ _ _ _ _ (reader.bytes.after ≡ left_by w.file reader.bytes.before)
      said other (work.left files_told reader_told);
  reader_kept = λ some none. work.reader_kept some;
  files_kept = work.files_kept;
  source_first = work.source_first;
  unplanned = λ line h. absurd h;
}

-- arguments are served that ask for such a job
pub serves : {F R W E : Type 0} (arguments : List Text) (w : Wanted) (files : Files F) (reader : Stream R)
    (writer : Stream W) (errors : Stream E) (status : ℕ) (job_end : JobEnd) → w ≡ job_of arguments
    → fault_of stages_app arguments ≡ [] → Performed w files reader writer job_end
    → Finishes errors.told (job_end_status job_end) (job_end_text job_end) errors.failed_before errors.failed_after
    errors.bytes.before errors.bytes.after status
    → ServesArguments stages arguments files reader writer errors status
serves arguments w files reader writer errors status job_end is none work said =
    let owed : Reports (IsDue (failures_before files reader writer) (failures_after files reader writer)) errors status =
    (_, _, due job_end _ _ _ _ _ _ work.leaves, said) in record {
      job = λ has_job. subst (λ (v : Wanted). DoesJob (stages_job v files reader.bytes.before) files reader writer
          errors status) is (does w files reader writer errors status job_end work said);
      no_job = λ faults. absurd (faults none);
      said = owed;
      failed = failed_due _ _ _ _ _ _ _ _ owed;
      status_is = finished_status _ _ _ _ _ _ _ _ owed;
    }

-- any job may end because memory ran out
pub may_run_out : {F R W E : Type 0} (arguments : List Text) (files : Files F) (reader : Stream R)
    (writer : Stream W) (errors : Stream E) (status : ℕ) → RanOut files reader writer errors status
    → MayRunOut (stages_job (job_of arguments) files reader.bytes.before) files reader writer
may_run_out arguments files reader writer errors status out =
    let w = job_of arguments in
    let source = source_of w.file files.bytes files.failed_before files.failed_after reader.bytes.before in
    (λ none. out.same_files, without_memory [] (nothing source) out.calm (out.unwritten ∙ sym (append-nil _)))
