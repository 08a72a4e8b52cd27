use Rattle.std.proofs.Common.{length, ap, sym, ◌∙◌, subst}
use Rattle.ick_explorer.specs.Paths.{Leads}
use Rattle.ick_step.specs.History.{after, choices_in}
use Rattle.ick_step.specs.Seen.{start_of}
use Rattle.ick_step.proofs.CursorLaws.{history-leads}
use Rattle.ick_step.proofs.Results.{if_ok}
use Rattle.ick_step.proofs.history.History.choices.Goals as goal

pub returns-clause-leads : goal.returns-clause-leads
returns-clause-leads g c =
    let m = g.M.Backtrack.seen c.args.self.now.machine in
    let xs = c.args.self.now.answers.items in
    if_ok c.collect_choices.result c.collect_choices.ensures
    (λ v is limit within. subst (λ l. Leads m.program (start_of m) limit l (after m.program (start_of m) xs) (length xs))
    (sym (is ∙ ap choices_in c.deref.ensures.value))
    (history-leads m.program (start_of m) xs limit c.law.ensures.history within))
