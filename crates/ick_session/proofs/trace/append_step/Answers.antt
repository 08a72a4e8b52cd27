use Rattle.std.proofs.Common.{◌≡◌, ◌∙◌, ap, ap₂, subst, sym}
use Rattle.std.specs.List.{list_any}
use Rattle.ick_code.specs.Compiled.{IsCompiled}
use Rattle.ick_code.specs.meaning.Move.{advance}
use Rattle.ick_code.specs.meaning.State.{statement_at}
use Rattle.ick_machine.specs.StateView.{present_state}
use Rattle.ick_machine.specs.Seen.{trailed_machine}
use Rattle.ick_session.specs.Changes.{passed_text}
use Rattle.ick_session.specs.Targets.{is_of_abstaining, ops_at}
use Rattle.ick_inspect.proofs.AddLaws.{same, then}
use Rattle.ick_session.proofs.ChangeLaws.{changes_same}
use Rattle.ick_session.proofs.StepLaws.{flags_left}
use Rattle.ick_session.proofs.trace.append_step.Goals as goal

pub append_changes-requires-clause-before : goal.append_changes-requires-clause-before
append_changes-requires-clause-before c = c.requires.code ∙ sym c.present-old.ensures.program

pub append_changes-requires-clause-after : goal.append_changes-requires-clause-after
append_changes-requires-clause-after c =
    c.requires.code ∙ (sym c.requires.program ∙ sym c.present-new.ensures.program)

pub append_changes-requires-clause-still : goal.append_changes-requires-clause-still
append_changes-requires-clause-still c = λ none.
    let old = trailed_machine c.args.before.now in
    let code = c.args.code.now in
    let at : old.state.place ≡ c.place.result = ap (λ s. s.place) (sym c.present-old.ensures.state) ∙ c.place.ensures in
    let is : IsCompiled old.program code = subst (λ p. IsCompiled p code) c.requires.code c.law.ensures in
    ap (λ s. s.abstained) (c.present-new.ensures.state ∙ c.requires.state)
    ∙ (flags_left old.program code old.state c.args.done is
    (ap (λ n. list_any is_of_abstaining (ops_at code n)) at ∙ none)
    ∙ ap (λ s. s.abstained) (sym c.present-old.ensures.state))

pub returns : goal.returns
returns c =
    let code = c.args.code.now in
    let old = trailed_machine c.args.before.now in
    then (same (ap₂ (λ p s. passed_text (statement_at p s.place) s c.args.done) c.present-old.ensures.program
    c.present-old.ensures.state) c.append_passed.ensures)
    (same (changes_same code c.place.result old.state (advance old.program old.state c.args.done)
    (present_state c.present-old.result) (present_state c.present-new.result) c.present-old.ensures.state
    (c.present-new.ensures.state ∙ c.requires.state) c.place.ensures) c.append_changes.ensures)
