use Rattle.std.proofs.Common.{arith, sym}
use Rattle.ick_places.proofs.SpanLemmas.{left-plain, left-between, first-plain, first-between}
use Rattle.ick_places.proofs.span.first_byte.Goals as goal

pub returns-then-position : goal.returns-then-position
returns-then-position c =
    sym (first-between c.args.text.now _ c.min-at.result _ (omega (arith, c.min-at.ensures))
    (left-between c.args.text.now c.args.position c.min-at.result c.if-position.true c.min-at.ensures)
    c.saturating_sub.ensures)

pub returns : goal.returns
returns c =
    sym (first-plain c.args.text.now _ c.min-at.result (omega (arith, c.min-at.ensures))
    (left-plain c.args.text.now c.args.position c.min-at.result c.if-position.false c.min-at.ensures))
