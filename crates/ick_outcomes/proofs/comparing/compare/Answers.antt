use Rattle.std.proofs.Common.{false, sym, arith, slice_index_or}
use Rattle.ick_outcomes.proofs.PlaceByPlace.{differs-below, is_short, is_longer, differ-other, differ-true}
use Rattle.ick_outcomes.proofs.comparing.compare.Goals as goal

pub returns-then-at-other-clause-longer : goal.returns-then-at-other-clause-longer
returns-then-at-other-clause-longer c = λ _.
    is_longer c.args.one.now c.args.other.now c.choices.at c.choices-test.true c.if-at-other.true c.choices.invariant.1

pub returns-then-other-at-clause-below : goal.returns-then-other-at-clause-below
returns-then-other-at-clause-below c = λ _.
    let lt = c.choices.invariant.0 in let ne = c.if-at-other.false in
    differs-below c.args.one.now c.args.other.now c.choices.at false false c.choices-test.true (omega (arith, lt, ne))
    c.choices.invariant.1
    (differ-other (slice_index_or c.args.one.now c.choices.at false) (slice_index_or c.args.other.now c.choices.at false)
    c.if-one-at.true c.if-other-at.true)
    c.if-other-at.true

pub returns-else-other-at-clause-above : goal.returns-else-other-at-clause-above
returns-else-other-at-clause-above c = λ _.
    let lt = c.choices.invariant.0 in let ne = c.if-at-other.false in
    differs-below c.args.other.now c.args.one.now c.choices.at false false (omega (arith, lt, ne)) c.choices-test.true
    (sym c.choices.invariant.1)
    c.if-other-at.false
    (differ-true (slice_index_or c.args.one.now c.choices.at false) (slice_index_or c.args.other.now c.choices.at false)
    c.if-one-at.true c.if-other-at.false)

pub returns-clause-beginning : goal.returns-clause-beginning
returns-clause-beginning c = λ _.
    let n = c.choices-test.false in
    is_short c.args.one.now c.args.other.now c.choices.at (omega (arith, n)) c.choices.invariant.0 c.choices.invariant.1
