use Rattle.std.proofs.Common.{refl, subst, sym}
use Rattle.ick_job.specs.JobEnd.{Answers}
use Rattle.ick_job.specs.Answer.{refusal, shown}
use Rattle.ick_outcomes_cli.specs.Asked.{foreign_text}
use Rattle.ick_outcomes_cli.specs.Tool.{IsToldOf}
use Rattle.ick_outcomes_cli.proofs.Giving.{gives_refusal, gives_sent, no_line}
use Rattle.ick_outcomes_cli.proofs.dispatch.tell.Goals as goal

pub returns-in-Text-clause-gives : goal.returns-in-Text-clause-gives
returns-in-Text-clause-gives g c = λ told.
    gives_sent (IsToldOf c.args.asked.now) c.send.result _ _ (shown c.in-Text.text.items) c.send.ensures.sent
    (subst (λ f. IsToldOf f (shown c.in-Text.text.items)) (sym c.in-Text.is) refl)
    (subst (λ l. Answers (shown l) c.send.result (g.W.ByteSink.written c.args.writer.now)
    (g.W.ByteSink.written c.send.new.writer)) c.as_slice.ensures.value (c.send.ensures.answer told))

pub returns-in-Foreign-clause-gives : goal.returns-in-Foreign-clause-gives
returns-in-Foreign-clause-gives g c = λ told.
    let n = c.in-Foreign.number in
    gives_refusal no_line (IsToldOf c.args.asked.now) 64 (foreign_text n) c.foreign.result _ c.foreign.ensures
    (subst (λ f. IsToldOf f (refusal 64 (foreign_text n))) (sym c.in-Foreign.is) refl)
