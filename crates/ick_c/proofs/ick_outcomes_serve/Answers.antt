use Rattle.ick_devices.specs.Written.{Written}
use Rattle.ick_c.specs.OutcomesCall.{OutcomesOfBytes}
use Rattle.ick_c.proofs.CallLemmas.{from_nothing}
use Rattle.ick_c.proofs.ick_outcomes_serve.Goals as goal

pub returns-clause-served : goal.returns-clause-served
returns-clause-served c =
    let writer : Written = c.answer_outcomes-status.new.writer in
    let said : Written = c.answer_outcomes-status.new.errors in (
      writer,
      said,
      cc,
      cc,
      cc,
      cc,
      from_nothing (λ old old' code. OutcomesOfBytes c.args.arguments.now c.args.file.now c.args.listing.now
          c.args.input.now old writer old' said code) _ _ _ _ c.new-writer.ensures c.new-said.ensures c.code.ensures
          c.answer_outcomes-status.ensures.served,
    )
