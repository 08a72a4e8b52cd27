use Rattle.ick_code.specs.Compiled.{code_program}
use Rattle.ick_syntax.specs.Programs.{trees_of}
use Rattle.ick_step_cli.specs.Plan.{planned_by}
use Rattle.ick_step_cli.proofs.AnswerLaws.{compiled_gives}
use Rattle.ick_step_cli.proofs.Giving.{gives_refused, gives_unread}
use Rattle.ick_job.proofs.Ends.{where_other}
use Rattle.ick_step_cli.specs.Left.{left_compiled}
use Rattle.ick_step_cli.proofs.Leaving.{refused_left, where_unread}
use Rattle.ick_step_cli.proofs.dispatch.answer_source.Goals as goal

pub returns-in-Err-clause-gives : goal.returns-in-Err-clause-gives
returns-in-Err-clause-gives g c = λ inputs_told reader_told writer_told.
    gives_refused _ (planned_by c.args.plan) _ _ _ c.in-Err.refusal c.refused.result _ c.in-Err.ensures.refused c.refused.ensures

pub returns-in-Ok-read_input-clause-gives : goal.returns-in-Ok-read_input-clause-gives
returns-in-Ok-read_input-clause-gives g c = λ inputs_told reader_told writer_told.
    compiled_gives (planned_by c.args.plan) _ _ _ (trees_of c.in-Ok.program) (code_program c.in-Ok-compile.code) _ _
    c.answer_code.result _ _ c.in-Ok.ensures.compiles c.in-Ok-compile.ensures.program_is c.as_slice.ensures.value
    (c.in-Ok-read_input.ensures.whole inputs_told) c.in-Ok-read_input.ensures.fits
    (c.answer_code.ensures.gives reader_told writer_told)

pub returns-in-Err-read_input-clause-gives : goal.returns-in-Err-read_input-clause-gives
returns-in-Err-read_input-clause-gives g c = λ inputs_told reader_told writer_told.
    gives_unread _ (planned_by c.args.plan) _ (g.I.Files.named c.args.inputs.now) _ _ _ _ (trees_of c.in-Ok.program)
    c.in-Err-read_input.job_end _ c.in-Ok.ensures.compiles (c.in-Err-read_input.ensures.unread inputs_told)
    c.in-Err-read_input.ensures.leaves.opened

-- what is left in the reader
pub returns-in-Err-clause-left : goal.returns-in-Err-clause-left
returns-in-Err-clause-left g c = λ inputs_told reader_told.
    refused_left c.args.plan.trace _ _ c.in-Err.refusal c.refused.result c.in-Err.ensures.refused c.refused.ensures

pub returns-in-Ok-read_input-clause-left : goal.returns-in-Ok-read_input-clause-left
returns-in-Ok-read_input-clause-left g c = λ inputs_told reader_told.
    where_other c.answer_code.result _ _
    (λ h. left_compiled (trees_of c.in-Ok.program) (g.R.ByteSource.left c.answer_code.new.reader)
    c.in-Ok.ensures.compiles h) (c.answer_code.ensures.left reader_told)

pub returns-in-Err-read_input-clause-left : goal.returns-in-Err-read_input-clause-left
returns-in-Err-read_input-clause-left g c = λ inputs_told reader_told.
    where_unread _ (g.I.Files.named c.args.inputs.now) c.in-Err-read_input.job_end _
    (c.in-Err-read_input.ensures.unread inputs_told)

-- an input that is opened for a source that compiles
pub returns-in-Ok-read_input-clause-inputs_refused : goal.returns-in-Ok-read_input-clause-inputs_refused
returns-in-Ok-read_input-clause-inputs_refused g c = λ none. absurd (none (trees_of c.in-Ok.program) c.in-Ok.ensures.compiles)

pub returns-in-Err-read_input-clause-inputs_refused : goal.returns-in-Err-read_input-clause-inputs_refused
returns-in-Err-read_input-clause-inputs_refused g c = λ none. absurd (none (trees_of c.in-Ok.program) c.in-Ok.ensures.compiles)
