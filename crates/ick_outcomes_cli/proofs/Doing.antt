-- From what the work of a job leaves to what the whole call leaves.
use Rattle.std.proofs.Common.{◌≡◌, ◌≢◌, ◌+◌, ◌<◌, ◌⊎◌, ◌&&◌, ℕ, Bool, true, false, List, [], None, ap, refl, subst}
use Rattle.clap.specs.Words.{Text, fault_of}
use Rattle.ick_job.specs.JobEnd.{input_of}
use Rattle.ick_job.specs.Program.{DoesJob, Files, ServesArguments, Stream, both}
use Rattle.ick_job.specs.Serve.{Failures, Finishes}
use Rattle.ick_job.proofs.Programs.{MayRunOut, RanOut}
use Rattle.ick_job.proofs.Served.{failed_due, four_by, was_answered}
use Rattle.ick_outcomes_cli.specs.Job.{Wanted, asks_both, has_file, job_of}
use Rattle.ick_outcomes_cli.specs.Left.{IsLeft}
use Rattle.ick_outcomes_cli.specs.OutcomesEnd.{Gives, LeavesAll, WhereGiven, outcomes_end_status, outcomes_end_text}
use Rattle.ick_outcomes_cli.specs.Program.{listing_in, outcomes, outcomes_job, source_in}
use Rattle.ick_outcomes_cli.specs.Serve.{IsOutcomesDue, as_ick, long_listing, many_states, unfinished}
use Rattle.ick_outcomes_cli.specs.Serve.{without_memory}
use Rattle.ick_outcomes_cli.specs.Tool.{IsOutcomesAnswer, MayStop}
use Rattle.ick_outcomes_cli.specs.Words.{outcomes_app}
use Rattle.ick_outcomes_cli.specs.declared.outcomes_end.OutcomesEnd.{OutcomesEnd}
use Rattle.ick_outcomes_cli.specs.declared.outcomes_end.OutcomesEnd.TheVariants.{By, Refused, Unfinished}
use Rattle.ick_outcomes_cli.proofs.Serving.{outcomes_due, outcomes_served, outcomes_status}

-- what work leaves over devices
pub record Performed {F L R W : Type 0} (w : Wanted) (one : Files F) (other : Files L) (reader : Stream R)
    (writer : Stream W) (outcomes_end : OutcomesEnd) : Type 0 where
  pub leaves : LeavesAll outcomes_end (one.failed_before + other.failed_before) (one.failed_after + other.failed_after)
      reader.failed_before reader.failed_after writer.failed_before writer.failed_after
  pub gives : one.told ≡ true → other.told ≡ true → reader.told ≡ true → writer.told ≡ true → Gives
      (IsOutcomesAnswer w (input_of w.file reader.bytes.before) (listing_in w (both one other))
      (source_in w (both one other) reader.bytes.before))
      (MayStop w (input_of w.file reader.bytes.before) (source_in w (both one other) reader.bytes.before))
      outcomes_end writer.bytes.before writer.bytes.after
  pub left : one.told ≡ true → reader.told ≡ true
      → WhereGiven outcomes_end (IsLeft w one.bytes reader.bytes.before reader.bytes.after)
  pub files_kept : has_file w ≡ false → one.new ≡ one.old
  pub listings_kept : w.listing ≡ None → other.new ≡ other.old
  pub both_kept : asks_both w ≡ true → (one.new ≡ one.old) × (other.new ≡ other.old)
  pub source_first : has_file w ≡ false → reader.failed_before < reader.failed_after → writer.new ≡ writer.old

both_told : (one other : Bool) → (one && other) ≡ true → (one ≡ true) × (other ≡ true)
both_told true other told = (refl, told)
both_told false other told = absurd (cc)

-- a status that isn't 4 is that of an answer
was_given : (told : Bool) (outcomes_end : OutcomesEnd) (e e' : ℕ) (errs errs' : List ℕ) (code : ℕ) (Fact : Type 0)
    → Finishes told (outcomes_end_status outcomes_end) (outcomes_end_text outcomes_end) e e' errs errs' code
    → code ≢ 4 → WhereGiven outcomes_end Fact → Fact
was_given told (By job_end) e e' errs errs' code Fact done other h =
    was_answered told job_end e e' errs errs' code Fact done other h
was_given told (Refused line) e e' errs errs' code Fact done other h =
    absurd (other (four_by told 4 _ e e' errs errs' code done refl))
was_given told (Unfinished line) e e' errs errs' code Fact done other h =
    absurd (other (four_by told 4 _ e e' errs errs' code done refl))

-- if a device failed, or the error text wasn't written, the status is 4
outcomes_failed : (old new : Failures) (told : Bool) (e e' : ℕ) (errs errs' : List ℕ) (code : ℕ) (text : List ℕ)
    (status : ℕ) → IsOutcomesDue old new text status → Finishes told status text e e' errs errs' code
    → (old.files < new.files) ⊎ (old.reads < new.reads) ⊎ (old.writes < new.writes) ⊎ (e < e') → code ≡ 4
outcomes_failed old new told e e' errs errs' code text status (as_ick t s owed) done bad =
    failed_due old new told e e' errs errs' code (t, s, owed, done) bad
outcomes_failed old new told e e' errs errs' code text status (many_states same) done bad =
    four_by told 4 _ e e' errs errs' code done refl
outcomes_failed old new told e e' errs errs' code text status (long_listing same) done bad =
    four_by told 4 _ e e' errs errs' code done refl
outcomes_failed old new told e e' errs errs' code text status (unfinished line is same) done bad =
    four_by told 4 _ e e' errs errs' code done refl

-- a job is done whose end was reported
does : {F L R W E : Type 0} (w : Wanted) (one : Files F) (other : Files L) (reader : Stream R) (writer : Stream W)
    (errors : Stream E) (status : ℕ) (outcomes_end : OutcomesEnd) → Performed w one other reader writer outcomes_end
    → Finishes errors.told (outcomes_end_status outcomes_end) (outcomes_end_text outcomes_end)
    errors.failed_before errors.failed_after errors.bytes.before errors.bytes.after status
    → DoesJob (outcomes_job w (both one other) reader.bytes.before) (both one other) reader writer errors status
does w one other reader writer errors status outcomes_end work said = record {
  done = λ told reader_told writer_told.
      let files_told = both_told one.told other.told told in (
        _,
        _,
        outcomes_served outcomes_end _ _ _ _ _ _ _ _ work.leaves
            (work.gives files_told.0 files_told.1 reader_told writer_told),
        said,
      );
  left = λ told reader_told unlike.
      was_given errors.told outcomes_end _ _ _ _ _ (IsLeft w one.bytes reader.bytes.before reader.bytes.after)
      said unlike (work.left (both_told one.told other.told told).0 reader_told);
  reader_kept = λ some none. absurd (cc);
  files_kept = (work.files_kept, work.listings_kept, work.both_kept);
  source_first = work.source_first;
  unplanned = λ line h. absurd h;
}

-- arguments are served that ask for such a job
pub serves : {F L R W E : Type 0} (arguments : List Text) (w : Wanted) (one : Files F) (other : Files L)
    (reader : Stream R) (writer : Stream W) (errors : Stream E) (status : ℕ) (outcomes_end : OutcomesEnd)
    → w ≡ job_of arguments → fault_of outcomes_app arguments ≡ [] → Performed w one other reader writer outcomes_end
    → Finishes errors.told (outcomes_end_status outcomes_end) (outcomes_end_text outcomes_end)
    errors.failed_before errors.failed_after errors.bytes.before errors.bytes.after status
    → ServesArguments outcomes arguments (both one other) reader writer errors status
serves arguments w one other reader writer errors status outcomes_end is none work said =
    let owed = outcomes_due outcomes_end _ _ _ _ _ _ work.leaves in record {
      job = λ has_job. subst (λ (v : Wanted). DoesJob (outcomes_job v (both one other) reader.bytes.before)
          (both one other) reader writer errors status) is
          (does w one other reader writer errors status outcomes_end work said);
      no_job = λ faults. absurd (faults none);
      said = (_, _, owed, said);
      failed = outcomes_failed _ _ _ _ _ _ _ _ _ _ owed said;
      status_is = outcomes_status _ _ _ _ _ _ _ _ _ _ owed said;
    }

-- any job may end because memory ran out
pub may_run_out : {F L R W E : Type 0} (arguments : List Text) (one : Files F) (other : Files L) (reader : Stream R)
    (writer : Stream W) (errors : Stream E) (status : ℕ) → RanOut (both one other) reader writer errors status
    → MayRunOut (outcomes_job (job_of arguments) (both one other) reader.bytes.before) (both one other) reader writer
may_run_out arguments one other reader writer errors status out = (
  (
    λ none. ap (λ p. p.0) out.same_files,
    λ none. ap (λ p. p.1) out.same_files,
    λ yes. (ap (λ p. p.0) out.same_files, ap (λ p. p.1) out.same_files),
  ),
  without_memory out.calm out.unwritten,
)
