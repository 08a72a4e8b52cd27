-- What a program leaves that did no job.
use Rattle.std.proofs.Common.{◌≡◌, ◌∙◌, ◌≢◌, ◌⊎◌, inl, inr, ℕ, List, [], ap, arith, refl, sym}
use Rattle.clap.specs.Kinds.{HasKind}
use Rattle.clap.specs.Words.{Kinds, Text, fault_of, kind_of}
use Rattle.clap.specs.declared.error.Error.{Error}
use Rattle.clap.specs.declared.error.ErrorKind.TheVariants as kind
use Rattle.ick_job.specs.Notice.{notice_text}
use Rattle.ick_job.specs.Program.{Device, DoesJob, Job, Program, RefusesArguments, Reports, ServesArguments, Stream}
use Rattle.ick_job.specs.Program.{TellsHelp, TellsMistake, failures_after, failures_before}
use Rattle.ick_job.specs.Serve.{Failures, Finishes, IsDue, counts, line_without_memory}
use Rattle.ick_job.specs.Usage.{IsMistake, IsRequest, help_without_memory, refused_without_memory}
use Rattle.ick_job.specs.declared.notice.Notice.TheVariants.{OutOfMemory}
use Rattle.ick_job.proofs.ErrorKinds.{memory_ran_out, mistaken, requested}
use Rattle.ick_job.proofs.Served.{failed_due, finished_status, four_by, same_counts}

-- Memory ran out, and nothing else was done.
pub record RanOut {S B R W E : Type 0} (files : Device S B) (reader : Stream R) (writer : Stream W)
    (errors : Stream E) (status : ℕ) : Type 0 where
  pub same_files : files.new ≡ files.old
  pub same_reader : reader.new ≡ reader.old
  pub same_writer : writer.new ≡ writer.old
  pub calm : failures_after files reader writer ≡ failures_before files reader writer
  pub unwritten : writer.bytes.after ≡ writer.bytes.before
  pub line : Finishes errors.told 4 (notice_text OutOfMemory) errors.failed_before errors.failed_after
      errors.bytes.before errors.bytes.after status

-- what such a job owes
abbrev pub MayRunOut : {S B R W : Type 0} → Job → Device S B → Stream R → Stream W → Type 0
MayRunOut job files reader writer =
    job.KeepsFiles × job.IsDone (failures_before files reader writer) (failures_after files reader writer)
    writer.bytes.before writer.bytes.after (notice_text OutOfMemory) 4

pub undone : {S B R W E : Type 0} (job : Job) (files : Device S B) (reader : Stream R) (writer : Stream W)
    (errors : Stream E) (status : ℕ) → RanOut files reader writer errors status → MayRunOut job files reader writer
    → DoesJob job files reader writer errors status
undone job files reader writer errors status out owed = record {
  done = λ files_told reader_told writer_told. (_, _, owed.1, out.line);
  left = λ files_told reader_told other. absurd (other (four_by _ _ _ _ _ _ _ _ out.line refl));
  reader_kept = λ some none. out.same_reader;
  files_kept = owed.0;
  source_first = λ none more. out.same_writer;
  unplanned = λ line h. (out.same_files, out.same_reader, out.same_writer, (_, _, line_without_memory, out.line));
}

-- what any arguments leave if memory ran out before they were read
pub unserved : {S B R W E : Type 0} (program : Program S B) (arguments : List Text) (files : Device S B)
    (reader : Stream R) (writer : Stream W) (errors : Stream E) (status : ℕ)
    → RanOut files reader writer errors status
    → MayRunOut (program.job arguments files reader.bytes.before) files reader writer
    → program.IsDue (failures_before files reader writer) (failures_after files reader writer) (notice_text OutOfMemory) 4
    → ServesArguments program arguments files reader writer errors status
unserved program arguments files reader writer errors status out owed due =
    let four = four_by _ _ _ _ _ _ _ _ out.line refl in
    let mistake : TellsMistake writer errors status = (out.same_writer, (_, _, refused_without_memory, out.line)) in record {
      job = λ none. undone (program.job arguments files reader.bytes.before) files reader writer errors status out owed;
      no_job = λ faults. record {
        untouched = (out.same_files, out.same_reader);
        either = inl mistake;
        usage = λ mistakes. mistake;
        help = λ requests.
            (_, _, help_without_memory (ap (λ (f : Failures). f.writes) out.calm) out.unwritten, out.line);
      };
      said = (_, _, due, out.line);
      failed = λ bad. four;
      status_is = inl (omega (arith, four));
    }

-- What arguments leave whose parse failed, by what the error of clap was answered with.
pub refused_words : {S B R W E : Type 0} (program : Program S B) (arguments : List Text) (error : Error)
    (files : Device S B) (reader : Stream R) (writer : Stream W) (errors : Stream E) (status : ℕ)
    → HasKind (fault_of program.app arguments) error
    → files.new ≡ files.old → reader.new ≡ reader.old
    → (IsMistake (kind_of error) → TellsMistake writer errors status)
    → (IsRequest (kind_of error) → TellsHelp writer errors status)
    → TellsMistake writer errors status ⊎ TellsHelp writer errors status
    → Reports (IsDue (failures_before files reader writer) (failures_after files reader writer)) errors status
    → (kind_of error ≡ kind.OutOfMemory → RanOut files reader writer errors status)
    → ((text : List ℕ) (code : ℕ)
    → IsDue (failures_before files reader writer) (failures_after files reader writer) text code
    → program.IsDue (failures_before files reader writer) (failures_after files reader writer) text code)
    → (RanOut files reader writer errors status
    → MayRunOut (program.job arguments files reader.bytes.before) files reader writer)
    → ServesArguments program arguments files reader writer errors status
refused_words program arguments error files reader writer errors status law same same' mistake help either said memory
    as_due owed =
    record {
      job = λ none.
          let out = memory (memory_ran_out error (fault_of program.app arguments) none law) in
          undone (program.job arguments files reader.bytes.before) files reader writer errors status out (owed out);
      no_job = λ faults. record {
        untouched = (same, same');
        either = either;
        usage = λ mistakes. mistake (mistaken error (fault_of program.app arguments) mistakes law);
        help = λ requests. requested _ error (fault_of program.app arguments) requests law help (λ e.
            let out = memory e in
            (_, _, help_without_memory (ap (λ (f : Failures). f.writes) out.calm) out.unwritten, out.line));
      };
      said = (said.0, said.1, as_due said.0 said.1 said.2, said.3);
      failed = failed_due _ _ _ _ _ _ _ _ said;
      status_is = finished_status _ _ _ _ _ _ _ _ said;
    }
