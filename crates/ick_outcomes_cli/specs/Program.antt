-- What `ick-outcomes` owes to its arguments.
use Rattle.std.specs.Prelude.{◌≡◌, true, false, List, Option, None, ℕ}
use Rattle.ick_job.specs.JobEnd.{input_of, source_of}
use Rattle.ick_job.specs.Program.{Device, Files, Job, Program}
use Rattle.ick_outcomes_cli.specs.Job.{Wanted, asks_both, has_file, job_of}
use Rattle.ick_outcomes_cli.specs.Left.{IsLeft}
use Rattle.ick_outcomes_cli.specs.OutcomesEnd.{listing_of}
use Rattle.ick_outcomes_cli.specs.Serve.{IsOutcomesDue, IsOutcomesServed}
use Rattle.ick_outcomes_cli.specs.Tool.{IsOutcomesAnswer, MayStop}
use Rattle.ick_outcomes_cli.specs.Words.{outcomes_app}

-- FILE and LISTING are opened by two devices
abbrev pub TwoFiles : Type 0 → Type 0 → Type 0
TwoFiles F L = Device (F × L) (Files F × Files L)

abbrev pub source_in : {F L : Type 0} → Wanted → TwoFiles F L → List ℕ → Option (List ℕ)
source_in w files left =
    let one = files.bytes.0 in source_of w.file one.bytes one.failed_before one.failed_after left

abbrev pub listing_in : {F L : Type 0} → Wanted → TwoFiles F L → Option (List ℕ)
listing_in w files =
    let other = files.bytes.1 in listing_of w.listing other.bytes other.failed_before other.failed_after

-- An answer of the job is served, or the job stops with a line that it may stop with.
abbrev pub outcomes_job : {F L : Type 0} → Wanted → TwoFiles F L → List ℕ → Job
outcomes_job w files left = record {
  has_file = has_file w;
  takes_input = true;
  IsRefusedBy = λ line. ⊥;
  IsDone = IsOutcomesServed
      (IsOutcomesAnswer w (input_of w.file left) (listing_in w files) (source_in w files left))
      (MayStop w (input_of w.file left) (source_in w files left));
  IsLeft = IsLeft w files.bytes.0.bytes left;
  KeepsFiles = (has_file w ≡ false → files.bytes.0.new ≡ files.bytes.0.old)
      × (w.listing ≡ None → files.bytes.1.new ≡ files.bytes.1.old)
      × (asks_both w ≡ true → (files.bytes.0.new ≡ files.bytes.0.old) × (files.bytes.1.new ≡ files.bytes.1.old));
}

abbrev pub outcomes : {F L : Type 0} → Program (F × L) (Files F × Files L)
outcomes = record {
  app = outcomes_app;
  job = λ arguments. outcomes_job (job_of arguments);
  IsDue = IsOutcomesDue;
}
