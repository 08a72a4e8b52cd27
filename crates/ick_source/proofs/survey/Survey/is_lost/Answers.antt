use Rattle.std.specs.Prelude.{is_some}
use Rattle.std.proofs.Common.{◌≡◌, true, false, not, ap, sym, ◌∙◌, option_and_then}
use Rattle.ick_syntax.specs.ProgramFaults.{used_label}
use Rattle.ick_syntax.specs.StatementTree.{StatementTree}
use Rattle.ick_source.proofs.CursorLemmas.{none_is, some_is}
use Rattle.ick_source.proofs.SeenLemmas.{found_at}
use Rattle.ick_source.proofs.SurveyLemmas.{lost_none, lost_tells, lost_unspelled, not_false, used_none}
use Rattle.ick_source.proofs.survey.Survey.is_lost.Goals as goal

pub returns-then-is_none : goal.returns-then-is_none
returns-then-is_none c = λ trees k s there.
    let found = found_at k c.args.one.now s.sees there in
    let none = none_is c.label.result (c.is_none.ensures ∙ ap not c.if-is_none.true) in
    let body = ap (λ (u : StatementTree). u.body) found.sees.reads.clamped in
    let uses = ap (option_and_then (used_label c.args.how)) (sym body) ∙ sym c.label.ensures ∙ none in
    lost_none c.args.how trees k c.args.one.now found (used_none c.args.how found.tree.body uses)

pub returns-in-Some : goal.returns-in-Some
returns-in-Some c = λ trees k s there.
    let found = found_at k c.args.one.now s.sees there in
    let some = some_is c.label.result (c.is_none.ensures ∙ ap not c.if-is_none.false) in
    let body = ap (λ (u : StatementTree). u.body) found.sees.reads.clamped in
    let uses = ap (option_and_then (used_label c.args.how)) (sym body) ∙ sym c.label.ensures ∙ some.1 in
    lost_tells c.args.how trees k c.args.one.now c.in-Some.label c.is_none-in-Some.result c.args.self.now.labels some.0
    s.labels found uses c.in-Some.is
    (λ e. sym c.first.ensures ∙ none_is c.first.result (c.is_none-in-Some.ensures ∙ ap not e))
    (λ none. not_false c.is_none-in-Some.result
    (sym c.is_none-in-Some.ensures ∙ ap is_some (c.first.ensures ∙ none)))

pub returns-in-None : goal.returns-in-None
returns-in-None c = λ trees k s there lost.
    let found = found_at k c.args.one.now s.sees there in
    let some = some_is c.label.result (c.is_none.ensures ∙ ap not c.if-is_none.false) in
    let body = ap (λ (u : StatementTree). u.body) found.sees.reads.clamped in
    let uses = ap (option_and_then (used_label c.args.how)) (sym body) ∙ sym c.label.ensures ∙ some.1 in
    lost_unspelled c.args.how trees k c.args.one.now some.0 found uses c.in-None.is
