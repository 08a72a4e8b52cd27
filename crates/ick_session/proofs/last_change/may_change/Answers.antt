use Rattle.std.proofs.Common.{◌∙◌, ap, sym}
use Rattle.ick_code.specs.Compiled.{code_slots}
use Rattle.ick_code.specs.Names.{is_among}
use Rattle.ick_machine.specs.StateView.{present_program, present_state}
use Rattle.ick_session.specs.Targets.{names_changed_by, ops_at}
use Rattle.ick_session.proofs.StepLaws.{had_left}
use Rattle.ick_session.proofs.last_change.may_change.Goals as goal

pub returns : goal.returns
unfolding present_program
returns c = λ no chosen.
    let code = c.args.present.now.lowered.now.code.now in
    let ops = c.ops_of.ensures ∙ ap (ops_at code) (sym c.place.ensures) in
    had_left (present_program c.args.present.now) code (present_state c.args.present.now) chosen c.args.name c.law.ensures
    (sym (ap (λ l. is_among c.args.name (names_changed_by (code_slots code) l)) ops) ∙ (sym c.is_changed_by.ensures ∙ no))
