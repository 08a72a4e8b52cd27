use Rattle.ick_job.proofs.Texts.{given_none, given_some}
use Rattle.ick_step_cli.proofs.PlanLaws.{both_refused, seed_given, text_given, text_unread}
use Rattle.ick_step_cli.proofs.plan.given_choices.Goals as goal

pub returns-in-Ok-clause-ok : goal.returns-in-Ok-clause-ok
returns-in-Ok-clause-ok c = text_given _ c.args.seed c.in-Ok.choices c.in-None.is c.in-Ok.ensures.ok

pub returns-in-Err-clause-err : goal.returns-in-Err-clause-err
returns-in-Err-clause-err c = text_unread _ c.args.seed c.in-Err.job_end c.in-None.is c.in-Err.ensures.err

pub returns-in-None-choices-clause-ok : goal.returns-in-None-choices-clause-ok
returns-in-None-choices-clause-ok c =
    seed_given _ c.args.seed c.in-Some.seed _ (given_none _ _ c.in-None-choices.is) c.in-Some.is c.seeded.ensures

pub returns-in-Some-choices-clause-err : goal.returns-in-Some-choices-clause-err
returns-in-Some-choices-clause-err c =
    both_refused _ c.args.seed _ c.in-Some.seed _ (given_some _ _ _ c.in-Some-choices.is) c.in-Some.is c.usage.ensures
