use Rattle.std.proofs.Common.{subst, sym}
use Rattle.ick_cli.specs.Job.{task_of}
use Rattle.ick_job.specs.JobEnd.{EndsByLine}
use Rattle.ick_cli.specs.Plan.{HasPlan, IsPlanned, IsUnplanned, check_planned, from_unread, list_planned, runs_planned}
use Rattle.ick_cli.specs.declared.plan.Plan.TheVariants.{Check, List as ListStatements, Execute}
use Rattle.ick_cli.specs.declared.plan.Runs.TheVariants.{Listed}
use Rattle.ick_cli.specs.declared.words.job.Subcommand.{Subcommand}
use Rattle.ick_job.proofs.Lines.{by_other_line}
use Rattle.ick_cli.proofs.plan.plan_of.Goals as goal

pub returns-in-Check-clause-ok : goal.returns-in-Check-clause-ok
returns-in-Check-clause-ok c =
    subst (λ (s : Subcommand). IsPlanned (task_of s) Check) (sym c.in-Check.is) check_planned

pub returns-in-List-clause-ok : goal.returns-in-List-clause-ok
returns-in-List-clause-ok c =
    subst (λ (s : Subcommand). IsPlanned (task_of s) ListStatements) (sym c.in-List.is) list_planned

pub returns-in-Ok-clause-ok : goal.returns-in-Ok-clause-ok
returns-in-Ok-clause-ok c =
    subst (λ (s : Subcommand). IsPlanned (task_of s) (Execute (Listed c.in-Ok.from c.in-Runs.count c.in-Runs.limit)))
    (sym c.in-Runs.is)
    (runs_planned _ c.in-Runs.count c.in-Runs.limit c.in-Ok.from c.in-Ok.ensures.ok)

pub returns-in-Err-clause-err : goal.returns-in-Err-clause-err
returns-in-Err-clause-err c =
    subst (λ (s : Subcommand). EndsByLine (IsUnplanned (task_of s)) c.in-Err.job_end) (sym c.in-Runs.is)
    (by_other_line _ _ _ (λ line h. from_unread _ c.in-Runs.count c.in-Runs.limit line h) c.in-Err.ensures.err)

pub returns-in-Err-clause-memory : goal.returns-in-Err-clause-memory
returns-in-Err-clause-memory c = λ memory.
    let found = c.in-Err.ensures.memory memory in
    subst (λ (s : Subcommand). HasPlan (task_of s)) (sym c.in-Runs.is)
    (_, runs_planned _ c.in-Runs.count c.in-Runs.limit found.0 found.1)
