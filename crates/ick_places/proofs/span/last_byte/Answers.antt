use Rattle.std.proofs.Common.{◌-◌, ◌≤◌, length, suc, arith, sym, ap, ◌∙◌}
use Rattle.ick_places.proofs.SpanLemmas.{Many, left-plain, left-between, last-plain, last-bang, last-other, last-none, between-is, plain-is}
use Rattle.ick_places.proofs.span.last_byte.Goals as goal
use Rattle.ick_places.proofs.span.last_byte.Goals.{then-not-position-via-then-not-position}
use Rattle.ick_places.proofs.span.last_byte.Goals.{then-not-position-via-else-not-position+then-at-eq0}
use Rattle.ick_places.proofs.span.last_byte.Goals.{then-not-position-via-else-not-position+else-at-eq0+then-text-at-eq33}

pub returns-then-not-position : goal.returns-then-not-position
returns-then-not-position c =
    let text = c.args.text.now in
    let at = c.min-at.result in
    let low : at ≤ length text = omega (arith, c.min-at.ensures) in
    elim c.then-not-position.branch [
      | then-not-position-via-then-not-position w ↦
          sym (last-plain text _ at low
          (left-plain text c.args.position at (plain-is _ w.if-not-position.true) c.min-at.ensures))
      | then-not-position-via-else-not-position+then-at-eq0 w ↦
          let left = left-between text c.args.position at (between-is _ w.if-not-position.false) c.min-at.ensures in
          w.if-at-eq0.true
          ∙ sym (last-none text _ (left ∙ ap (λ n. suc (Many text n)) w.if-at-eq0.true))
      | then-not-position-via-else-not-position+else-at-eq0+then-text-at-eq33 w ↦
          sym (last-bang text _ at (at - 1) low (omega (arith, w.if-at-eq0.false)) w.if-text-at-eq33.true
          (left-between text c.args.position at (between-is _ w.if-not-position.false) c.min-at.ensures))
    ]

pub returns : goal.returns
returns c =
    let text = c.args.text.now in
    let at = c.min-at.result in
    sym (last-other text _ at (at - 1) (omega (arith, c.min-at.ensures)) (omega (arith, c.if-at-eq0.false))
    c.if-text-at-eq33.false
    (left-between text c.args.position at (between-is _ c.if-not-position.false) c.min-at.ensures))
