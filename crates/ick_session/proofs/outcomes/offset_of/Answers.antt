use Rattle.std.proofs.Common.{ap, arith, length, rules, sym, ◌∙◌}
use Rattle.ick_code.specs.meaning.State.{Array}
use Rattle.ick_runtime.proofs.OffsetLemmas.{inside, is_inside, is_outside, none_at, place_is, walk_done}
use Rattle.ick_session.proofs.OutcomeLaws.{step_none}
use Rattle.ick_session.proofs.outcomes.offset_of.Goals as goal

pub returns-then-dimensions-subs-clause-index : goal.returns-then-dimensions-subs-clause-index
returns-then-dimensions-subs-clause-index c = search (rules, none_at)

pub returns-in_err-offset-clause-index : goal.returns-in_err-offset-clause-index
returns-in_err-offset-clause-index c =
    let a : Array = record { dimensions = c.args.dimensions.now; elements = c.args.elements.now } in
    c.from_residual.ensures
    ∙ (step_none c.args.dimensions.now c.args.subs.now c.loop-at.offset c.loop-at.at c.number.result
    (length c.args.elements.now) c.index-subs-at.result (omega (arith, c.loop-at-test.true, c.if-dimensions-subs.false))
    c.loop-at-test.true c.index-subs-at.is c.number.ensures.value (sym c.in_err-offset.was ∙ c.next_offset.ensures)
    ∙ (c.loop-at.invariant ∙ place_is a c.args.subs.now))

pub returns-then-offset-count-clause-index : goal.returns-then-offset-count-clause-index
returns-then-offset-count-clause-index c =
    let a : Array = record { dimensions = c.args.dimensions.now; elements = c.args.elements.now } in
    is_inside c.loop-at.offset (length c.args.elements.now) c.if-offset-count.true
    ∙ (ap (inside (length c.args.elements.now)) (walk_done c.args.dimensions.now c.args.subs.now c.loop-at.offset c.loop-at.at
    (omega (arith, c.loop-at-test.false, c.if-dimensions-subs.false)) (omega (arith, c.loop-at-test.false)))
    ∙ (c.loop-at.invariant ∙ place_is a c.args.subs.now))

pub returns-else-offset-count-clause-index : goal.returns-else-offset-count-clause-index
returns-else-offset-count-clause-index c =
    let a : Array = record { dimensions = c.args.dimensions.now; elements = c.args.elements.now } in
    is_outside c.loop-at.offset (length c.args.elements.now) (omega (arith, c.if-offset-count.false))
    ∙ (ap (inside (length c.args.elements.now)) (walk_done c.args.dimensions.now c.args.subs.now c.loop-at.offset c.loop-at.at
    (omega (arith, c.loop-at-test.false, c.if-dimensions-subs.false)) (omega (arith, c.loop-at-test.false)))
    ∙ (c.loop-at.invariant ∙ place_is a c.args.subs.now))
