use Rattle.std.proofs.Common.{◌+◌, ◌≡◌, ap, ◌∙◌, sym, subst}
use Rattle.std.specs.Prelude.{IfOk, Ok}
use Rattle.ick_code.proofs.Sizes.{sizes_of, smaller_element, smaller_member}
use Rattle.ick_code.specs.meaning.Value.{value_of, values_of}
use Rattle.ick_machine.specs.StateView.{present_state}
use Rattle.ick_syntax.specs.Tree.{tree_of, trees_in}
use Rattle.ick_syntax.proofs.TreeLemmas.{tree_of-element}
use Rattle.ick_session.proofs.OutcomeLaws.{values_fail, values_more}
use Rattle.ick_session.proofs.outcomes.+outcome.Goals as goal

pub outcome_of-returns-in-Element : goal.outcome_of-returns-in-Element
outcome_of-returns-in-Element t c =
    subst (λ t. IfOk c.element_outcome.result (λ o. o ≡ value_of t (present_state c.args.present.now)))
    (sym (ap tree_of c.in-Element.is ∙ tree_of-element c.in-Element.element)) c.element_outcome.ensures

pub outcome_of-element_outcome-requires : goal.outcome_of-element_outcome-requires
outcome_of-element_outcome-requires t c =
    (smaller_element c.in-Element.element c.args.e.now t c.in-Element.is c.decreases, tt)

pub outcomes_of-outcome_of-requires : goal.outcomes_of-outcome_of-requires
outcomes_of-outcome_of-requires t c = (
  smaller_member c.deref-e-items.result.now c.loop-e.e-index c.e-item.result t c.loop-e-test.true c.e-item.is
      (ap (λ l. 1 + sizes_of (trees_in l)) c.deref-e-items.ensures.value ∙ c.decreases),
  tt,
)

pub outcomes_of-returns-in-Err-clause-fault : goal.outcomes_of-returns-in-Err-clause-fault
outcomes_of-returns-in-Err-clause-fault t c =
    let s = present_state c.args.present.now in
    values_fail c.deref-e-items.result.now c.loop-e.e-index c.e-item.result s c.loop-e.values.items c.in-Err.fault
    c.loop-e-test.true c.e-item.is c.loop-e.invariant (sym c.in-Err.is ∙ c.in_ok-value.ensures)
    ∙ ap (λ l. values_of (trees_in l) s) c.deref-e-items.ensures.value

pub outcomes_of-loop-e-preserved : goal.outcomes_of-loop-e-preserved
outcomes_of-loop-e-preserved t c =
    ap Ok c.in_ok-push-in-Ok.ensures.items
    ∙ values_more c.deref-e-items.result.now c.loop-e.e-index c.e-item.result (present_state c.args.present.now)
    c.loop-e.values.items c.in-Ok.value c.loop-e-test.true c.e-item.is c.loop-e.invariant
    (sym c.in-Ok.is ∙ c.in_ok-value.ensures)
