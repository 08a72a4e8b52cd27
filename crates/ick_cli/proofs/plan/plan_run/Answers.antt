use Rattle.ick_job.proofs.Lines.{by_other_line, by_usage}
use Rattle.ick_job.proofs.Texts.{given_none, given_some}
use Rattle.ick_cli.proofs.Planned.{no_plan, plan_drawn, plan_given, unread_given}
use Rattle.ick_cli.proofs.plan.plan_run.Goals as goal

pub returns-in-Ok-clause-ok : goal.returns-in-Ok-clause-ok
returns-in-Ok-clause-ok c = plan_given _ _ _ _ c.in-None.is c.in-Ok.ensures.ok

pub returns-in-Err-clause-err : goal.returns-in-Err-clause-err
returns-in-Err-clause-err c =
    by_other_line _ _ _ (λ line h. unread_given _ _ _ line c.in-None.is h) c.in-Err.ensures.err

pub returns-in-Err-clause-memory : goal.returns-in-Err-clause-memory
returns-in-Err-clause-memory c = λ memory.
    let found = c.in-Err.ensures.memory memory in (_, plan_given _ _ _ _ c.in-None.is found.1)

pub returns-in-None-choices-clause-ok : goal.returns-in-None-choices-clause-ok
returns-in-None-choices-clause-ok c = plan_drawn _ _ _ _ (given_none _ _ c.in-None-choices.is) c.in-Some.is

pub returns-in-Some-choices-clause-err : goal.returns-in-Some-choices-clause-err
returns-in-Some-choices-clause-err c =
    by_usage _ _ _ c.usage.ensures (no_plan _ _ _ _ _ (given_some _ _ _ c.in-Some-choices.is) c.in-Some.is)
