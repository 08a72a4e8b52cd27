use Rattle.std.proofs.Common.{ℕ, List, ◌++◌, ◌∙◌, ap, subst}
use Rattle.std.specs.Prelude.{OnOk}
use Rattle.ick_inspect.specs.Text.{Adds}
use Rattle.ick_machine.specs.StateView.{present_state}
use Rattle.ick_source.specs.RefusalAnswers.{Refuses}
use Rattle.ick_syntax.specs.Programs.{trees_of}
use Rattle.ick_syntax.specs.StatementTree.{statement_trees}
use Rattle.ick_session.specs.Evaluated.{AnswersCalculation}
use Rattle.ick_session.proofs.EvaluatedLaws.{compiled_is, long_is, refused_is}
use Rattle.ick_session.proofs.evaluated.append_evaluated.Goals as goal

pub returns-in-Ok : goal.returns-in-Ok
returns-in-Ok c =
    let s = present_state c.args.present.now in
    let text = c.args.text.now in
    let is = c.deref.ensures.value
    ∙ (c.in_ok-extend_from_slice.ensures.items ∙ ap (λ l. l ++ text) c.in_ok-source.ensures.items) in
    compiled_is c.append_calculated.result s text c.deref.result.now (trees_of c.in-Ok.program) c.args.out.now
    c.append_calculated.new.out is c.in-Ok.ensures.compiles c.in-Ok.ensures.only c.in-Ok.ensures.not_refused
    (subst (λ xs. OnOk c.append_calculated.result ((answer : List ℕ) × AnswersCalculation s (statement_trees xs) answer
    × Adds c.args.out.now c.append_calculated.new.out answer)) c.statements.ensures c.append_calculated.ensures)

pub returns-in-Err-Fault : goal.returns-in-Err-Fault
returns-in-Err-Fault c =
    let text = c.args.text.now in
    let is = c.deref.ensures.value
    ∙ (c.in_ok-extend_from_slice.ensures.items ∙ ap (λ l. l ++ text) c.in_ok-source.ensures.items) in
    let pushed = c.in-Err-Fault.kind-is in
    refused_is (present_state c.args.present.now) text c.deref.result.now c.in-Err-Fault.kind _ c.in-Err-Fault.field-0-1
    c.args.out.now c.append_outcome.new.out is (subst (λ e. Refuses c.deref.result.now e) c.in-Err-Fault.field-0-is
    c.in-Err-Fault.ensures.refused) c.append_outcome.ensures cc

pub returns-in-Err-TooLong : goal.returns-in-Err-TooLong
returns-in-Err-TooLong c =
    let text = c.args.text.now in
    let is = c.deref.ensures.value
    ∙ (c.in_ok-extend_from_slice.ensures.items ∙ ap (λ l. l ++ text) c.in_ok-source.ensures.items) in
    long_is (present_state c.args.present.now) text c.deref.result.now c.args.out.now c.push.new.self is
    (subst (λ e. Refuses c.deref.result.now e) c.in-Err-TooLong.field-0-is c.in-Err-TooLong.ensures.refused) c.push.ensures
