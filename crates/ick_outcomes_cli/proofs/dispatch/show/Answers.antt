use Rattle.std.proofs.Common.{refl, subst, sym}
use Rattle.ick_job.specs.JobEnd.{Answers}
use Rattle.ick_job.specs.Answer.{shown}
use Rattle.ick_outcomes_cli.specs.Tool.{IsTextFound}
use Rattle.ick_outcomes_cli.proofs.Giving.{gives_sent}
use Rattle.ick_outcomes_cli.proofs.dispatch.show.Goals as goal

pub returns-in-Outcomes-clause-gives : goal.returns-in-Outcomes-clause-gives
returns-in-Outcomes-clause-gives g c = λ told.
    gives_sent (IsTextFound c.args.found) c.send.result _ _ (shown c.in-Outcomes.text.items) c.send.ensures.sent
    (subst (λ f. IsTextFound f (shown c.in-Outcomes.text.items)) (sym c.in-Outcomes.is) refl)
    (subst (λ l. Answers (shown l) c.send.result (g.W.ByteSink.written c.args.writer.now)
    (g.W.ByteSink.written c.send.new.writer)) c.as_slice.ensures.value (c.send.ensures.answer told))
