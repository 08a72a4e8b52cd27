use Rattle.std.proofs.Common.{◌<◌, ◌∙◌, arith, length, sym, None}
use Rattle.ick_session.proofs.CountLaws.{taken_not_some, taken_some}
use Rattle.ick_session.proofs.counted.count_choices.Goals.{then-is_some, else-is_some}
use Rattle.ick_session.proofs.counted.count_choices.Goals as goal

pub loop-at-preserved : goal.loop-at-preserved
loop-at-preserved c =
    let xs = c.args.answers.now in
    let n = c.loop-at.at in
    let lt : n < length xs = omega (arith, c.loop-at-test.true) in
    let was = c.loop-at.invariant.count in
    let within = c.loop-at.invariant.within in
    elim c.if-is_some.branch [
      | then-is_some w ↦
          let more = taken_some xs n None lt (sym c.is_some.ensures ∙ w.if-is_some.true) in
          let is = w.count-is in
          record { count = omega (arith, more, was, is); within = omega (arith, is, within) }
      | else-is_some w ↦
          let more = taken_not_some xs n None lt (sym c.is_some.ensures ∙ w.if-is_some.false) in
          let is = w.count-is in
          record { count = omega (arith, more, was, is); within = omega (arith, is, within) }
    ]
