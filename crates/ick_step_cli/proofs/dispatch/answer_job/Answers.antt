use Rattle.std.proofs.Common.{◌∙◌, refl}
use Rattle.ick_job.proofs.Texts.{given_none, given_some}
use Rattle.ick_step_cli.specs.Plan.{planned_by}
use Rattle.ick_step_cli.proofs.Giving.{unopened_file, with_file, without_file}
use Rattle.ick_job.proofs.Ends.{where_answered, where_cut, where_other, where_unopened}
use Rattle.ick_step_cli.proofs.Leaving.{file_left, front_refused, no_file_refused, reader_left}
use Rattle.ick_step_cli.proofs.dispatch.answer_job.Goals as goal

pub returns-in-Ok-clause-gives : goal.returns-in-Ok-clause-gives
returns-in-Ok-clause-gives g c = λ files_told inputs_told reader_told writer_told.
    with_file c.args.terminal (planned_by c.args.plan) _ _ c.in-Some.name.now (g.F.Files.named c.args.files.now) _ _ _ _
    c.answer_source.result _ _ (given_some _ _ _ c.in-Some.is) c.in-Ok.ensures.count
    (c.as_slice.ensures.value ∙ c.in-Ok.ensures.front files_told)
    (c.answer_source.ensures.gives inputs_told reader_told writer_told)

pub returns-in-Err-clause-gives : goal.returns-in-Err-clause-gives
returns-in-Err-clause-gives g c = λ files_told inputs_told reader_told writer_told.
    unopened_file c.args.terminal (planned_by c.args.plan) _ _ c.in-Some.name.now (g.F.Files.named c.args.files.now) _ _
    _ c.in-Err.job_end _ (given_some _ _ _ c.in-Some.is) c.in-Err.ensures.unopened c.in-Err.ensures.leaves.opened

pub returns-in-Ok-read_front-clause-gives : goal.returns-in-Ok-read_front-clause-gives
returns-in-Ok-read_front-clause-gives g c = λ files_told inputs_told reader_told writer_told.
    without_file c.args.terminal (planned_by c.args.plan) _ _ (g.F.Files.named c.args.files.now) _ _ _ _ _
    c.answer_source-in-Ok-read_front.result _ _ (given_none _ _ c.in-None.is) c.new-nothing.ensures
    (c.as_slice-in-Ok-read_front.ensures.value ∙ c.in-Ok-read_front.ensures.front reader_told)
    (c.answer_source-in-Ok-read_front.ensures.gives inputs_told refl writer_told)

-- what is left in the reader
pub returns-in-Ok-clause-left : goal.returns-in-Ok-clause-left
returns-in-Ok-clause-left g c = λ files_told inputs_told reader_told.
    where_other c.answer_source.result _ _
    (λ h. file_left _ c.args.plan.trace c.in-Some.name.now (g.F.Files.named c.args.files.now) _ _ _
    (given_some _ _ _ c.in-Some.is) (c.as_slice.ensures.value ∙ c.in-Ok.ensures.front files_told) h)
    (c.answer_source.ensures.left inputs_told reader_told)

pub returns-in-Err-clause-left : goal.returns-in-Err-clause-left
returns-in-Err-clause-left g c = λ files_told inputs_told reader_told.
    where_unopened c.in-Err.job_end _ c.in-Err.ensures.unopened

pub returns-in-Ok-read_front-clause-left : goal.returns-in-Ok-read_front-clause-left
returns-in-Ok-read_front-clause-left g c = λ files_told inputs_told reader_told.
    where_answered c.answer_source-in-Ok-read_front.result _
    (reader_left _ c.args.plan.trace (g.F.Files.named c.args.files.now) _ _ (given_none _ _ c.in-None.is)
    (c.in-Ok-read_front.ensures.rest reader_told))

pub returns-in-Err-read_front-clause-left : goal.returns-in-Err-read_front-clause-left
returns-in-Err-read_front-clause-left g c = λ files_told inputs_told reader_told.
    where_cut c.in-Err-read_front.job_end _ c.in-Err-read_front.ensures.cut

-- an input that isn't opened for a source that is refused
pub returns-in-Ok-clause-inputs_refused : goal.returns-in-Ok-clause-inputs_refused
returns-in-Ok-clause-inputs_refused g c = λ files_told none.
    c.answer_source.ensures.inputs_refused
    (front_refused _ c.in-Some.name.now (g.F.Files.named c.args.files.now) _ (given_some _ _ _ c.in-Some.is)
    (c.as_slice.ensures.value ∙ c.in-Ok.ensures.front files_told) none)

pub returns-in-Ok-read_front-clause-inputs_refused : goal.returns-in-Ok-read_front-clause-inputs_refused
returns-in-Ok-read_front-clause-inputs_refused g c = λ files_told none.
    absurd (no_file_refused _ (g.F.Files.named c.args.files.now) (given_none _ _ c.in-None.is) none)
