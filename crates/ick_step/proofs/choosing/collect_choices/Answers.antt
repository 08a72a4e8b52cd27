use Rattle.std.proofs.Common.{◌∷◌, [], ◌++◌, None, get_or, ap, sym, ◌∙◌}
use Rattle.ick_step.specs.History.{choices_in}
use Rattle.ick_step.proofs.HistoryLaws.{choices-more}
use Rattle.ick_step.proofs.choosing.collect_choices.Goals as goal

pub loop-answer-preserved : goal.loop-answer-preserved
loop-answer-preserved c =
    let xs = c.args.answers.now in
    let i = c.loop-answer.answer-index in
    c.in_ok-push_choice.ensures ∙ (ap (λ l. l ++ choices_in (get_or xs i None ∷ [])) c.loop-answer.invariant
    ∙ sym (choices-more xs i None c.loop-answer-test.true))
