use Rattle.ick_step_cli.proofs.AnswerLaws.{refused_gives, trace_gives}
use Rattle.ick_step_cli.proofs.dispatch.answer_trace.Goals as goal

pub returns-in-Ok-clause-gives : goal.returns-in-Ok-clause-gives
returns-in-Ok-clause-gives g c = λ told lines.
    trace_gives _ c.args.code.now c.args.positions.now c.in-Ok.stopped c.answer_stopped.result _ _ lines c.law.ensures
    (c.in-Ok.ensures.traces told) c.answer_stopped.ensures

pub returns-in-Err-clause-gives : goal.returns-in-Err-clause-gives
returns-in-Err-clause-gives g c = λ told lines.
    refused_gives _ _ c.in-Err.error c.refused.result _ _ c.refused.ensures c.in-Err.ensures.errors
    (c.in-Err.ensures.cut told lines)
