use Rattle.std.proofs.Common.{refl}
use Rattle.ick_session.specs.Given.{given_by}
use Rattle.ick_step_cli.specs.Job.{wanted}
use Rattle.ick_step_cli.specs.Plan.{AreRefused, planned_by}
use Rattle.ick_step_cli.specs.Tool.{unplanned}
use Rattle.ick_step_cli.proofs.Giving.{gives_line, planned_gives}
use Rattle.ick_step_cli.proofs.PlanLaws.{by_its_line, given_not_refused}
use Rattle.ick_job.proofs.Ends.{where_other}
use Rattle.ick_step_cli.proofs.Leaving.{planned_left, unplanned_left}
use Rattle.ick_step_cli.proofs.dispatch.perform.Goals as goal

pub returns-in-Ok-clause-gives : goal.returns-in-Ok-clause-gives
returns-in-Ok-clause-gives g c = λ files_told inputs_told reader_told writer_told.
    planned_gives (wanted c.args.job.now) (planned_by c.in-Ok.plan) (given_by c.in-Ok.plan.given)
    (g.I.Files.named c.args.inputs.now) _ _ _ _ c.answer_job.result _ _ c.in-Ok.ensures.given c.in-Ok.ensures.ok
    (c.answer_job.ensures.gives files_told inputs_told reader_told writer_told)

pub returns-in-Ok-clause-unplanned : goal.returns-in-Ok-clause-unplanned
returns-in-Ok-clause-unplanned g c = λ line refused.
    absurd (given_not_refused _ _ _ line c.in-Ok.ensures.given refused)

pub returns-in-Err-clause-gives : goal.returns-in-Err-clause-gives
returns-in-Err-clause-gives g c = λ files_told inputs_told reader_told writer_told.
    let w = wanted c.args.job.now in
    gives_line _ _ (AreRefused w.choices w.seed) c.in-Err.job_end _ c.in-Err.ensures.err (λ line is. unplanned line is)

pub returns-in-Err-clause-unplanned : goal.returns-in-Err-clause-unplanned
returns-in-Err-clause-unplanned g c = λ line refused.
    let w = wanted c.args.job.now in
    (refl, refl, refl, refl, by_its_line w.choices w.seed line c.in-Err.job_end refused c.in-Err.ensures.err)

-- what is left in the reader
pub returns-in-Ok-clause-left : goal.returns-in-Ok-clause-left
returns-in-Ok-clause-left g c = λ files_told inputs_told reader_told.
    where_other c.answer_job.result _ _
    (λ h. planned_left (wanted c.args.job.now) (planned_by c.in-Ok.plan) (given_by c.in-Ok.plan.given)
    (g.F.Files.named c.args.files.now) _ _ c.in-Ok.ensures.given c.in-Ok.ensures.ok h)
    (c.answer_job.ensures.left files_told inputs_told reader_told)

pub returns-in-Err-clause-left : goal.returns-in-Err-clause-left
returns-in-Err-clause-left g c = λ files_told inputs_told reader_told.
    unplanned_left (wanted c.args.job.now) (g.F.Files.named c.args.files.now) _ c.in-Err.job_end c.in-Err.ensures.err
