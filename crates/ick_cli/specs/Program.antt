-- What `ick` owes to its arguments.
use Rattle.std.specs.Prelude.{◌≡◌, false, List, ℕ}
use Rattle.ick_job.specs.Answer.{Answer}
use Rattle.ick_job.specs.JobEnd.{input_of, source_of}
use Rattle.ick_job.specs.Program.{Files, Job, Program}
use Rattle.ick_job.specs.Serve.{IsDue, IsServed}
use Rattle.ick_cli.specs.Job.{Asked, has_file, job_of, takes_input}
use Rattle.ick_cli.specs.Left.{IsLeft}
use Rattle.ick_cli.specs.Plan.{IsUnplanned}
use Rattle.ick_cli.specs.Tool.{IsToolAnswer}
use Rattle.ick_cli.specs.Words.{ick_app}

-- There is an answer that is the tool's, and it is served.
abbrev pub ick_job : {F : Type 0} → Asked → Files F → List ℕ → Job
ick_job asked files left = record {
  has_file = has_file asked;
  takes_input = takes_input asked.task;
  IsRefusedBy = IsUnplanned asked.task;
  IsDone = λ old new before after text status. (answer : Answer)
      × IsToolAnswer asked.task (source_of asked.file files.bytes files.failed_before files.failed_after left)
      (input_of asked.file left) answer
      × IsServed answer old new before after text status;
  IsLeft = IsLeft asked files.bytes left;
  KeepsFiles = has_file asked ≡ false → files.new ≡ files.old;
}

abbrev pub ick : {F : Type 0} → Program F (List ℕ → List ℕ)
ick = record {
  app = ick_app;
  job = λ arguments. ick_job (job_of arguments);
  IsDue = IsDue;
}
