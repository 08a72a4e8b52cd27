-- What `ick-step` owes to its arguments.
use Rattle.std.specs.Prelude.{◌≡◌, Bool, false, not, true, List, None, Option, ℕ}
use Rattle.ick_job.specs.JobEnd.{source_of}
use Rattle.ick_job.specs.Program.{Device, Files, Job, Program}
use Rattle.ick_job.specs.Serve.{IsDue}
use Rattle.ick_step_cli.specs.Job.{Wanted, has_file, job_of}
use Rattle.ick_step_cli.specs.Left.{IsLeft, IsRefusedFile}
use Rattle.ick_step_cli.specs.Plan.{AreRefused}
use Rattle.ick_step_cli.specs.Serve.{IsStepServed}
use Rattle.ick_step_cli.specs.Tool.{IsStepAnswer, IsStepBegun, input_of, lines_by}
use Rattle.ick_step_cli.specs.Words.{step_app}

-- FILE and the input are opened by two devices
abbrev pub TwoFiles : Type 0 → Type 0 → Type 0
TwoFiles F I = Device (F × I) (Files F × Files I)

abbrev pub source_in : {F I : Type 0} → Wanted → TwoFiles F I → List ℕ → Option (List ℕ)
source_in w files left =
    let one = files.bytes.0 in source_of w.file one.bytes one.failed_before one.failed_after left

abbrev pub input_in : {F I : Type 0} → Wanted → TwoFiles F I → Option (List ℕ)
input_in w files =
    let other = files.bytes.1 in input_of w.input other.bytes other.failed_before other.failed_after

-- The answer of a session or of a trace is served. The input isn't opened if the file's source is refused.
abbrev pub step_job : {F I : Type 0} → (terminal : Bool) → Wanted → TwoFiles F I → List ℕ → Job
step_job terminal w files left = record {
  has_file = has_file w;
  takes_input = not w.trace;
  IsRefusedBy = AreRefused w.choices w.seed;
  IsDone = IsStepServed (IsStepAnswer w (input_in w files) (lines_by terminal w.file left) (source_in w files left))
      (IsStepBegun w (input_in w files) (lines_by terminal w.file left) (source_in w files left));
  IsLeft = IsLeft w files.bytes.0.bytes left;
  KeepsFiles = (has_file w ≡ false → files.bytes.0.new ≡ files.bytes.0.old)
      × (w.input ≡ None → files.bytes.1.new ≡ files.bytes.1.old)
      × (files.bytes.0.told ≡ true → IsRefusedFile w.file files.bytes.0.bytes → files.bytes.1.new ≡ files.bytes.1.old);
}

-- .. whose commands are typed at a terminal, or aren't
abbrev pub step : {F I : Type 0} → (terminal : Bool) → Program (F × I) (Files F × Files I)
step terminal = record {
  app = step_app;
  job = λ arguments. step_job terminal (job_of arguments);
  IsDue = IsDue;
}
