-- From what the work of a job leaves to what the whole call leaves.
use Rattle.std.proofs.Common.{◌≡◌, ◌+◌, ◌++◌, ◌<◌, ◌&&◌, ℕ, Bool, true, false, not, List, [], None, ap, ap₂, arith}
use Rattle.std.proofs.Common.{refl, subst, sym}
use Rattle.clap.specs.Words.{Text, fault_of}
use Rattle.ick_job.specs.Answer.{Answer}
use Rattle.ick_job.specs.JobEnd.{EndsByLine, Leaves, WhereAnswered, job_end_status, job_end_text}
use Rattle.ick_job.specs.Notice.{notice_text}
use Rattle.ick_job.specs.Program.{DoesJob, Files, Reports, ServesArguments, Stream, both, failures_after}
use Rattle.ick_job.specs.Program.{failures_before}
use Rattle.ick_job.specs.Serve.{Failures, Finishes, IsDue, IsLineDue, counts, line_due, line_without_memory}
use Rattle.ick_job.specs.declared.job_end.JobEnd.{JobEnd}
use Rattle.ick_job.specs.declared.job_end.JobEnd.TheVariants.{Answered, FileNotRead, InputTooLong, NoMemory, ReadFailed}
use Rattle.ick_job.specs.declared.job_end.JobEnd.TheVariants.{WriteFailed}
use Rattle.ick_job.specs.declared.notice.Message.TheVariants as message
use Rattle.ick_job.specs.declared.notice.Notice.{Notice}
use Rattle.ick_job.proofs.Programs.{MayRunOut, RanOut}
use Rattle.ick_job.proofs.Served.{due, failed_due, finished_status, same_counts, was_answered}
use Rattle.ick_step_cli.specs.Job.{Wanted, has_file, job_of}
use Rattle.ick_step_cli.specs.Left.{IsLeft, IsRefusedFile}
use Rattle.ick_step_cli.specs.Plan.{AreRefused}
use Rattle.ick_step_cli.specs.Program.{input_in, source_in, step, step_job}
use Rattle.ick_step_cli.specs.Serve.{Gives, IsStepServed, answered, cut_by_memory, cut_by_read, cut_by_write, unwritten}
use Rattle.ick_step_cli.specs.Tool.{IsStepAnswer, IsStepBegun, lines_by}
use Rattle.ick_step_cli.specs.Words.{step_app}

-- an answer, by its error text and its status
by_answer : (A : Answer → Type 0) (X : List ℕ → Type 0) (old new : Failures) (out out' : List ℕ) (answer : Answer)
    (text : List ℕ) (status : ℕ) → A answer → status ≡ answer.status → text ≡ answer.errors →
    new.reads ≡ old.reads → new.writes ≡ old.writes → out' ≡ out ++ answer.output →
    IsStepServed A X old new out out' text status
by_answer A X old new out out' answer text status is has_status has_text reads writes sends =
    subst (λ (t : List ℕ). IsStepServed A X old new out out' t status) (sym has_text)
    (subst (λ (s : ℕ). IsStepServed A X old new out out' answer.errors s) (sym has_status)
    (answered answer is reads writes sends))

-- how a job is served by a job's end
step_served : (A : Answer → Type 0) (X : List ℕ → Type 0) (job_end : JobEnd) (f f' r r' w w' : ℕ)
    (out out' : List ℕ) → Leaves job_end f f' r r' w w' → Gives A X job_end out out' →
    IsStepServed A X (counts f r w) (counts f' r' w') out out' (job_end_text job_end) (job_end_status job_end)
step_served A X (Answered status said) f f' r r' w w' out out' x h =
    let has = h.2 in
    by_answer A X _ _ out out' h.0 _ _ h.1 has.0.0 has.0.1 (omega (arith, x.read)) (omega (arith, x.wrote)) has.1
step_served A X InputTooLong f f' r r' w w' out out' x h =
    let has = h.2 in
    by_answer A X _ _ out out' h.0 _ _ h.1 has.0.0 has.0.1 (omega (arith, x.read)) (omega (arith, x.wrote)) has.1
step_served A X FileNotRead f f' r r' w w' out out' x h =
    let has = h.2 in
    by_answer A X _ _ out out' h.0 _ _ h.1 has.0.0 has.0.1 (omega (arith, x.read)) (omega (arith, x.wrote)) has.1
step_served A X WriteFailed f f' r r' w w' out out' x h =
    cut_by_write
    (same_counts _ _ _ _ _ _ (omega (arith, x.opened)) (omega (arith, x.read)) (omega (arith, x.wrote))) h
step_served A X ReadFailed f f' r r' w w' out out' x h =
    cut_by_read
    (same_counts _ _ _ _ _ _ (omega (arith, x.opened)) (omega (arith, x.read)) (omega (arith, x.wrote))) h
step_served A X NoMemory f f' r r' w w' out out' x h =
    cut_by_memory
    (same_counts _ _ _ _ _ _ (omega (arith, x.opened)) (omega (arith, x.read)) (omega (arith, x.wrote))) h

-- a job that is refused gets its line
line_said : {E : Type 0} (line : Notice) (errors : Stream E) (status : ℕ) (job_end : JobEnd) →
    EndsByLine (λ other. other ≡ line) job_end →
    Finishes errors.told (job_end_status job_end) (job_end_text job_end)
    errors.failed_before errors.failed_after errors.bytes.before errors.bytes.after status →
    Reports (IsLineDue line) errors status
line_said line errors status (Answered given (message.Notice other)) h done = (
  _,
  _,
  subst (λ (n : Notice). IsLineDue line (notice_text n) given) (sym h.1)
      (subst (λ (s : ℕ). IsLineDue line (notice_text line) s) (sym h.0) line_due),
  done,
)
line_said line errors status (Answered given message.Nothing) h done = absurd h
line_said line errors status (Answered given (message.Text text)) h done = absurd h
line_said line errors status NoMemory h done = (_, _, line_without_memory, done)
line_said line errors status InputTooLong h done = absurd h
line_said line errors status FileNotRead h done = absurd h
line_said line errors status ReadFailed h done = absurd h
line_said line errors status WriteFailed h done = absurd h

-- what work leaves over devices
pub record Performed {F I R W : Type 0} (terminal : Bool) (w : Wanted) (one : Files F) (other : Files I)
    (reader : Stream R) (writer : Stream W) (job_end : JobEnd) : Type 0 where
  pub leaves : Leaves job_end (one.failed_before + other.failed_before) (one.failed_after + other.failed_after)
      reader.failed_before reader.failed_after writer.failed_before writer.failed_after
  pub gives : one.told ≡ true → other.told ≡ true → reader.told ≡ true → writer.told ≡ true → Gives
      (IsStepAnswer w (input_in w (both one other)) (lines_by terminal w.file reader.bytes.before)
      (source_in w (both one other) reader.bytes.before))
      (IsStepBegun w (input_in w (both one other)) (lines_by terminal w.file reader.bytes.before)
      (source_in w (both one other) reader.bytes.before))
      job_end writer.bytes.before writer.bytes.after
  pub left : one.told ≡ true → other.told ≡ true → reader.told ≡ true → WhereAnswered job_end
      (IsLeft w one.bytes reader.bytes.before reader.bytes.after)
  pub reader_kept : has_file w ≡ true → w.trace ≡ true → reader.new ≡ reader.old
  pub files_kept : has_file w ≡ false → one.new ≡ one.old
  pub inputs_kept : w.input ≡ None → other.new ≡ other.old
  pub inputs_refused : one.told ≡ true → IsRefusedFile w.file one.bytes → other.new ≡ other.old
  pub source_first : has_file w ≡ false → reader.failed_before < reader.failed_after → writer.new ≡ writer.old
  pub unplanned : (line : Notice) → AreRefused w.choices w.seed line → (one.new ≡ one.old) × (other.new ≡ other.old)
      × (reader.new ≡ reader.old) × (writer.new ≡ writer.old) × EndsByLine (λ x. x ≡ line) job_end

both_told : (one other : Bool) → (one && other) ≡ true → (one ≡ true) × (other ≡ true)
both_told true other told = (refl, told)
both_told false other told = absurd (cc)

is_traced : (trace : Bool) → not trace ≡ false → trace ≡ true
is_traced true h = refl
is_traced false h = absurd (cc)

pair_same : {A B : Type 0} (a a' : A) (b b' : B) → a' ≡ a → b' ≡ b → ◌≡◌ {A = A × B} (a', b') (a, b)
pair_same {A} {B} a a' b b' e f = let pair : A → B → A × B = λ x y. (x, y) in ap₂ pair e f

-- a job is done whose end was reported
does : {F I R W E : Type 0} (terminal : Bool) (w : Wanted) (one : Files F) (other : Files I)
    (reader : Stream R) (writer : Stream W) (errors : Stream E) (status : ℕ) (job_end : JobEnd) → Performed terminal w one other reader writer job_end →
    Finishes errors.told (job_end_status job_end) (job_end_text job_end)
    errors.failed_before errors.failed_after errors.bytes.before errors.bytes.after status →
    DoesJob (step_job terminal w (both one other) reader.bytes.before) (both one other) reader writer errors status
does terminal w one other reader writer errors status job_end work said = record {
  done = λ told reader_told writer_told.
      let files_told = both_told one.told other.told told in (
        _,
        _,
        step_served _ _ job_end _ _ _ _ _ _ _ _ work.leaves
            (work.gives files_told.0 files_told.1 reader_told writer_told),
        said,
      );
  left = λ told reader_told unlike.
      let files_told = both_told one.told other.told told in
      was_answered errors.told job_end _ _ _ _ _ (IsLeft w one.bytes reader.bytes.before reader.bytes.after)
      said unlike (work.left files_told.0 files_told.1 reader_told);
  reader_kept = λ some none. work.reader_kept some (is_traced w.trace none);
  files_kept = (work.files_kept, work.inputs_kept, work.inputs_refused);
  source_first = work.source_first;
  unplanned = λ line h.
      let same = work.unplanned line h in
      (pair_same _ _ _ _ same.0 same.1, same.2, same.3, line_said line errors status job_end same.4 said);
}

-- arguments are served that ask for such a job
pub serves : {F I R W E : Type 0} (terminal : Bool) (arguments : List Text) (w : Wanted) (one : Files F)
    (other : Files I) (reader : Stream R) (writer : Stream W) (errors : Stream E) (status : ℕ) (job_end : JobEnd) →
    w ≡ job_of arguments → fault_of step_app arguments ≡ [] → Performed terminal w one other reader writer job_end →
    Finishes errors.told (job_end_status job_end) (job_end_text job_end)
    errors.failed_before errors.failed_after errors.bytes.before errors.bytes.after status →
    ServesArguments (step terminal) arguments (both one other) reader writer errors status
serves terminal arguments w one other reader writer errors status job_end is none work said =
    let owed : Reports (IsDue (failures_before (both one other) reader writer)
    (failures_after (both one other) reader writer)) errors status =
    (_, _, due job_end _ _ _ _ _ _ work.leaves, said) in record {
      job = λ has_job. subst (λ (v : Wanted). DoesJob (step_job terminal v (both one other) reader.bytes.before)
          (both one other) reader writer errors status) is
          (does terminal w one other reader writer errors status job_end work said);
      no_job = λ faults. absurd (faults none);
      said = owed;
      failed = failed_due _ _ _ _ _ _ _ _ owed;
      status_is = finished_status _ _ _ _ _ _ _ _ owed;
    }

-- any job may end because memory ran out
pub may_run_out : {F I R W E : Type 0} (terminal : Bool) (arguments : List Text) (one : Files F) (other : Files I)
    (reader : Stream R) (writer : Stream W) (errors : Stream E) (status : ℕ) → RanOut (both one other) reader writer errors status →
    MayRunOut (step_job terminal (job_of arguments) (both one other) reader.bytes.before) (both one other) reader writer
may_run_out terminal arguments one other reader writer errors status out = (
  (
    λ none. ap (λ p. p.0) out.same_files,
    λ none. ap (λ p. p.1) out.same_files,
    λ told refused. ap (λ p. p.1) out.same_files,
  ),
  cut_by_memory out.calm (unwritten out.unwritten),
)
