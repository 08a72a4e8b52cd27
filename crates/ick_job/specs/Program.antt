-- What a program owes to its arguments, over any devices.
use Rattle.std.specs.Prelude.{◌≡◌, ◌≢◌, ◌+◌, ◌<◌, ◌&&◌, ◌⊎◌, ℕ, Bool, true, false, List, []}
use Rattle.clap.specs.Words.{App, Kinds, Text, fault_of}
use Rattle.ick_job.specs.Notice.{notice_text}
use Rattle.ick_job.specs.Serve.{Failures, Finishes, FinishesDue, IsLineDue, IsStatus, counts}
use Rattle.ick_job.specs.Usage.{AreMistakes, AreRequests, IsHelped, IsRefused, words_notice, words_status}
use Rattle.ick_job.specs.declared.notice.Notice.{Notice}
use Rattle.ick_job.specs.declared.words_fault.WordsFault.{WordsFault}

-- A device of a call: whether it does what it says, its state before and after the call, how many of its calls had
-- failed, and what is known of its bytes.
pub record Device (S B : Type 0) : Type 0 where
  pub told : Bool
  pub old : S
  pub new : S
  pub failed_before : ℕ
  pub failed_after : ℕ
  pub bytes : B

-- what a reader has, or what was written, before and after the call
pub record Bytes : Type 0 where
  pub before : List ℕ
  pub after : List ℕ

-- a stream, and files, of which the bytes under each name are known
abbrev pub Stream : Type 0 → Type 0
Stream S = Device S Bytes

abbrev pub Files : Type 0 → Type 0
Files S = Device S (List ℕ → List ℕ)

abbrev pub stream : {S : Type 0} → Bool → (S → ℕ) → (S → List ℕ) → S → S → Stream S
stream told failed bytes old new = record {
  told = told;
  old = old;
  new = new;
  failed_before = failed old;
  failed_after = failed new;
  bytes = record { before = bytes old; after = bytes new };
}

abbrev pub files_by : {S : Type 0} → Bool → (S → ℕ) → (S → List ℕ → List ℕ) → S → S → Files S
files_by told failed named old new = record {
  told = told;
  old = old;
  new = new;
  failed_before = failed old;
  failed_after = failed new;
  bytes = named old;
}

-- two devices as one
abbrev pub both : {S T B C : Type 0} → Device S B → Device T C → Device (S × T) (Device S B × Device T C)
both one other = record {
  told = one.told && other.told;
  old = (one.old, other.old);
  new = (one.new, other.new);
  failed_before = one.failed_before + other.failed_before;
  failed_after = one.failed_after + other.failed_after;
  bytes = (one, other);
}

-- the counts of failures before and after the call
abbrev pub failures_before : {S B R W : Type 0} → Device S B → Stream R → Stream W → Failures
failures_before files reader writer = counts files.failed_before reader.failed_before writer.failed_before

abbrev pub failures_after : {S B R W : Type 0} → Device S B → Stream R → Stream W → Failures
failures_after files reader writer = counts files.failed_after reader.failed_after writer.failed_after

-- an error text and a status that are due were finished
abbrev pub Reports : {E : Type 0} → (List ℕ → ℕ → Type 0) → Stream E → ℕ → Type 0
Reports Due errors status = FinishesDue Due errors.told errors.failed_before errors.failed_after
    errors.bytes.before errors.bytes.after status

-- A job, by the program's definition of it. It is computed from the arguments, and from what is known of the files and
-- of the reader.
pub record Job : Type 1 where
  -- The source is a file's, and not the reader's.
  pub has_file : Bool
  -- It takes an input from the reader, if the source is a file's.
  pub takes_input : Bool
  -- It is refused by this line before anything is opened.
  pub IsRefusedBy : Notice → Type 0
  -- The error text and the status that are due to it, by the counts of failures and by what was written, each before
  -- and after the call.
  pub IsDone : (old new : Failures) → (before after : List ℕ) → List ℕ → ℕ → Type 0
  -- It leaves this in the reader.
  pub IsLeft : List ℕ → Type 0
  -- what is unchanged of the files, whatever the devices do
  pub KeepsFiles : Type 0

-- A program: the command by which its arguments are parsed, the job that they ask for, and the error text and the
-- status that are due over any devices, by the counts of failures.
pub record Program (S B : Type 0) : Type 1 where
  pub app : App
  pub job : List Text → Device S B → List ℕ → Job
  pub IsDue : (old new : Failures) → List ℕ → ℕ → Type 0

-- What a job leaves in the devices.
pub record DoesJob {S B R W E : Type 0} (job : Job) (files : Device S B) (reader : Stream R)
    (writer : Stream W) (errors : Stream E) (status : ℕ) : Type 0 where
  -- Over devices that do what they say it is done.
  pub done : files.told ≡ true → reader.told ≡ true → writer.told ≡ true → Reports
      (job.IsDone (failures_before files reader writer) (failures_after files reader writer)
      writer.bytes.before writer.bytes.after)
      errors status
  -- If files and reader do what they say, and nothing failed, it leaves in the reader what it should leave.
  pub left : files.told ≡ true → reader.told ≡ true → status ≢ 4 → job.IsLeft reader.bytes.after
  -- With a file and without an input the reader is unchanged.
  pub reader_kept : job.has_file ≡ true → job.takes_input ≡ false → reader.new ≡ reader.old
  -- Files that it doesn't open are unchanged.
  pub files_kept : job.KeepsFiles
  -- If the source is the reader's, and a read of it fails, the writer is unchanged.
  pub source_first : job.has_file ≡ false → reader.failed_before < reader.failed_after → writer.new ≡ writer.old
  -- If it is refused before anything is opened, its line is due, and files, reader and writer are unchanged.
  pub unplanned : (line : Notice) → job.IsRefusedBy line → (files.new ≡ files.old) × (reader.new ≡ reader.old)
      × (writer.new ≡ writer.old) × Reports (IsLineDue line) errors status

-- the text of a mistake was due, and the writer is unchanged
abbrev pub TellsMistake : {W E : Type 0} → Stream W → Stream E → ℕ → Type 0
TellsMistake writer errors status = (writer.new ≡ writer.old) × Reports IsRefused errors status

-- the text of help was due
abbrev pub TellsHelp : {W E : Type 0} → Stream W → Stream E → ℕ → Type 0
TellsHelp writer errors status = Reports (IsHelped writer.told writer.failed_before writer.failed_after
    writer.bytes.before writer.bytes.after) errors status

-- What is left by arguments in which the law of clap finds something else than a job: a mistake, or a request for help.
-- They may be both, as `help nope`.
pub record RefusesArguments {S B R W E : Type 0} (found : Kinds) (files : Device S B) (reader : Stream R)
    (writer : Stream W) (errors : Stream E) (status : ℕ) : Type 0 where
  pub untouched : (files.new ≡ files.old) × (reader.new ≡ reader.old)
  pub either : TellsMistake writer errors status ⊎ TellsHelp writer errors status
  pub usage : AreMistakes found → TellsMistake writer errors status
  pub help : AreRequests found → TellsHelp writer errors status

-- What a call of a program with these arguments leaves.
pub record ServesArguments {S B R W E : Type 0} (program : Program S B) (arguments : List Text)
    (files : Device S B) (reader : Stream R) (writer : Stream W) (errors : Stream E)
    (status : ℕ) : Type 0 where
  -- Arguments that ask for a job. By the law of clap their parse fails only if memory runs out.
  pub job : fault_of program.app arguments ≡ []
      → DoesJob (program.job arguments files reader.bytes.before) files reader writer errors status
  -- Other arguments.
  pub no_job : fault_of program.app arguments ≢ []
      → RefusesArguments (fault_of program.app arguments) files reader writer errors status
  -- Any arguments, over any devices: the error text and the status are those that are due. The status is 4 if a device
  -- failed, and it is one of the statuses of programs.
  pub said : Reports (program.IsDue (failures_before files reader writer) (failures_after files reader writer))
      errors status
  pub failed : (files.failed_before < files.failed_after) ⊎ (reader.failed_before < reader.failed_after)
      ⊎ (writer.failed_before < writer.failed_after) ⊎ (errors.failed_before < errors.failed_after) → status ≡ 4
  pub status_is : IsStatus status

-- What is left by arguments that can't be read: files, reader and writer are unchanged.
pub record RefusesUnread {S B R W E : Type 0} (fault : WordsFault) (files : Device S B) (reader : Stream R)
    (writer : Stream W) (errors : Stream E) (status : ℕ) : Type 0 where
  pub untouched : (files.new ≡ files.old) × (reader.new ≡ reader.old) × (writer.new ≡ writer.old)
  pub line : Finishes errors.told (words_status fault) (notice_text (words_notice fault))
      errors.failed_before errors.failed_after errors.bytes.before errors.bytes.after status
