-- What `ick-stages` owes to its arguments.
use Rattle.std.specs.Prelude.{◌≡◌, ◌+◌, ℕ, false, List, Option, Some, None, drop}
use Rattle.ick_job.specs.JobEnd.{source_of}
use Rattle.ick_job.specs.Program.{Files, Job, Program}
use Rattle.ick_job.specs.Serve.{IsDue}
use Rattle.ick_source.specs.Refusals.{longest}
use Rattle.ick_stages_cli.specs.Gives.{IsStagesServed}
use Rattle.ick_stages_cli.specs.Job.{Wanted, has_file, job_of}
use Rattle.ick_stages_cli.specs.Tool.{IsStagesAnswer, MayShow}
use Rattle.ick_stages_cli.specs.Words.{stages_app}

-- What a job leaves in the reader: all, if it names a file; else the reader is read to its end, and up to one byte more
-- than the longest source.
abbrev pub left_by : (file : Option (List ℕ)) → List ℕ → List ℕ
left_by (Some name) before = before
left_by None before = drop (longest + 1) before

-- An answer of the job is served. The source is all that is read.
abbrev pub stages_job : {F : Type 0} → Wanted → Files F → List ℕ → Job
stages_job w files left = record {
  has_file = has_file w;
  takes_input = false;
  IsRefusedBy = λ line. ⊥;
  IsDone = let source = source_of w.file files.bytes files.failed_before files.failed_after left in
      IsStagesServed (IsStagesAnswer w source) (MayShow w source);
  IsLeft = λ rest. rest ≡ left_by w.file left;
  KeepsFiles = has_file w ≡ false → files.new ≡ files.old;
}

abbrev pub stages : {F : Type 0} → Program F (List ℕ → List ℕ)
stages = record {
  app = stages_app;
  job = λ arguments. stages_job (job_of arguments);
  IsDue = IsDue;
}
