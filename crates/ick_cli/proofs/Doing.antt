-- From what the work of a job leaves to what the whole call leaves.
use Rattle.std.proofs.Common.{◌≡◌, ◌≢◌, ◌∙◌, ℕ, List, [], refl, subst, sym}
use Rattle.std.proofs.lemmas.List.{append-nil}
use Rattle.clap.specs.Words.{Text, fault_of}
use Rattle.ick_job.specs.JobEnd.{input_of, job_end_status, job_end_text, source_of}
use Rattle.ick_job.specs.Program.{DoesJob, Files, Reports, ServesArguments, Stream, failures_after}
use Rattle.ick_job.specs.Program.{failures_before}
use Rattle.ick_job.specs.Serve.{Finishes, IsDue, cut_by_memory}
use Rattle.ick_job.specs.declared.job_end.JobEnd.{JobEnd}
use Rattle.ick_job.proofs.Programs.{MayRunOut, RanOut}
use Rattle.ick_job.proofs.Served.{due, failed_due, finished_status, line_finished, served, was_answered}
use Rattle.ick_cli.specs.Dispatch.{Performs}
use Rattle.ick_cli.specs.Job.{Asked, job_of}
use Rattle.ick_cli.specs.Left.{IsLeft}
use Rattle.ick_cli.specs.Program.{ick, ick_job}
use Rattle.ick_cli.specs.Words.{ick_app}
use Rattle.ick_cli.proofs.OneAnswer.{tool_answer}

-- what work leaves over devices
abbrev Performed : {F R W : Type 0} → Asked → Files F → Stream R → Stream W → JobEnd → Type 0
Performed asked files reader writer job_end =
    Performs asked (failures_before files reader writer) (failures_after files reader writer)
    files.told files.bytes files.old files.new
    reader.told reader.bytes.before reader.bytes.after reader.old reader.new
    writer.told writer.bytes.before writer.bytes.after writer.old writer.new job_end

-- a job is done whose end was reported
does : {F R W E : Type 0} (asked : Asked) (files : Files F) (reader : Stream R) (writer : Stream W)
    (errors : Stream E) (status : ℕ) (job_end : JobEnd) → Performed asked files reader writer job_end
    → Finishes errors.told (job_end_status job_end) (job_end_text job_end) errors.failed_before errors.failed_after
    errors.bytes.before errors.bytes.after status
    → DoesJob (ick_job asked files reader.bytes.before) files reader writer errors status
does asked files reader writer errors status job_end work said = record {
  done = λ files_told reader_told writer_told.
      let found = tool_answer asked.task
      (source_of asked.file files.bytes files.failed_before files.failed_after reader.bytes.before)
      (input_of asked.file reader.bytes.before) in (
        _,
        _,
        (
          found.0,
          found.1,
          served found.0 job_end _ _ _ _ _ _ _ _ work.leaves
              (work.answer files_told reader_told writer_told found.0 found.1),
        ),
        said,
      );
  left = λ files_told reader_told other.
      was_answered errors.told job_end _ _ _ _ _ (IsLeft asked files.bytes reader.bytes.before reader.bytes.after)
      said other (work.left files_told reader_told);
  reader_kept = work.reader_kept;
  files_kept = work.files_kept;
  source_first = work.source_first;
  unplanned = λ line h.
      let kept = work.unplanned line h in
      (kept.0, kept.1, kept.2, line_finished errors.told line job_end _ _ _ _ _ kept.3 said);
}

-- arguments are served that ask for such a job
pub serves : {F R W E : Type 0} (arguments : List Text) (asked : Asked) (files : Files F) (reader : Stream R)
    (writer : Stream W) (errors : Stream E) (status : ℕ) (job_end : JobEnd) → asked ≡ job_of arguments
    → fault_of ick_app arguments ≡ [] → Performed asked files reader writer job_end
    → Finishes errors.told (job_end_status job_end) (job_end_text job_end) errors.failed_before errors.failed_after
    errors.bytes.before errors.bytes.after status
    → ServesArguments ick arguments files reader writer errors status
serves arguments asked files reader writer errors status job_end is none work said =
    let owed : Reports (IsDue (failures_before files reader writer) (failures_after files reader writer)) errors status =
    (_, _, due job_end _ _ _ _ _ _ work.leaves, said) in record {
      job = λ has_job. subst (λ (a : Asked). DoesJob (ick_job a files reader.bytes.before) files reader writer
          errors status) is (does asked files reader writer errors status job_end work said);
      no_job = λ faults. absurd (faults none);
      said = owed;
      failed = failed_due _ _ _ _ _ _ _ _ owed;
      status_is = finished_status _ _ _ _ _ _ _ _ owed;
    }

-- any job may end because memory ran out
pub may_run_out : {F R W E : Type 0} (arguments : List Text) (files : Files F) (reader : Stream R)
    (writer : Stream W) (errors : Stream E) (status : ℕ) → RanOut files reader writer errors status
    → MayRunOut (ick_job (job_of arguments) files reader.bytes.before) files reader writer
may_run_out arguments files reader writer errors status out =
    let asked = job_of arguments in
    let found = tool_answer asked.task
    (source_of asked.file files.bytes files.failed_before files.failed_after reader.bytes.before)
    (input_of asked.file reader.bytes.before) in
    (λ none. out.same_files, (found.0, found.1, cut_by_memory 0 out.calm (out.unwritten ∙ sym (append-nil _))))
