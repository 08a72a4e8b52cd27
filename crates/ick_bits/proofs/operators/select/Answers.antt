use Rattle.std.proofs.Common.{◌+◌, ◌^◌, ◌<◌, ◌≤◌, arith, rules, ◌∙◌}
use Rattle.ick_bits.specs.Operators.{ones_below}
use Rattle.ick_bits.proofs.OperatorLemmas.{ones-le, selected-fits, selected-wide, selected-narrow}
use Rattle.ick_bits.proofs.OperatorSteps.{four-packed, four-fits, four-shifted, place-below, ones-four, all-packed}
use Rattle.ick_bits.proofs.OperatorSteps.{all-placed}
use Rattle.ick_bits.proofs.operators.select.Goals as goal

pub loop-mask-init : goal.loop-mask-init
loop-mask-init c = record { packed = omega arith; ones = omega arith }

pub overflow_shl-packed : goal.overflow_shl-packed
overflow_shl-packed c =
    place-below c.number-mask.result c.loop-mask.ones c.loop-mask.mask (omega arith) (omega arith)
    c.loop-mask.invariant.ones

pub overflow_add-packed : goal.overflow_add-packed
overflow_add-packed c =
    let fits =
    four-fits c.number-from.result c.number-mask.result c.loop-mask.packed c.loop-mask.ones c.loop-mask.from
    c.loop-mask.mask (omega arith) c.loop-mask.invariant.packed in
    let moved =
    four-shifted c.number-from.result c.number-mask.result c.loop-mask.packed c.loop-mask.ones c.loop-mask.from
    c.loop-mask.mask (omega arith) c.loop-mask.invariant.packed in
    rw (c.packed_four.ensures, moved) (search (rules, fits))

pub overflow_add-ones : goal.overflow_add-ones
overflow_add-ones c =
    let few : c.loop-mask.ones + c.ones_of_four-ones.result < 2 ^ 32 =
    omega (
      arith,
      ones-four c.loop-mask.mask (omega arith),
      c.loop-mask.invariant.ones,
      ones-le c.number-mask.result 32,
      c.ones_of_four-ones.ensures,
    ) in
    search (rules, few)

pub loop-mask-preserved : goal.loop-mask-preserved
loop-mask-preserved c =
    let moved =
    four-shifted c.number-from.result c.number-mask.result c.loop-mask.packed c.loop-mask.ones c.loop-mask.from
    c.loop-mask.mask (omega arith) c.loop-mask.invariant.packed in
    record {
      packed =
          rw (c.packed_four.ensures, c.ones_of_four-ones.ensures, moved)
          (four-packed _ c.loop-mask.packed c.loop-mask.ones c.loop-mask.from c.loop-mask.mask (omega arith)
          c.loop-mask.invariant.packed);
      ones =
          omega
          (arith, ones-four c.loop-mask.mask (omega arith), c.loop-mask.invariant.ones, c.ones_of_four-ones.ensures);
    }

pub overflow_cast-packed : goal.overflow_cast-packed
overflow_cast-packed c =
    let packed =
    all-packed _ c.loop-mask.packed c.loop-mask.ones c.loop-mask.from c.loop-mask.mask c.loop-mask-test.false
    c.loop-mask.invariant.packed in
    let ones = all-placed _ c.loop-mask.ones c.loop-mask.mask c.loop-mask-test.false c.loop-mask.invariant.ones in
    let few : ones_below c.number-mask.result 32 ≤ 16 = omega (arith, ones) in
    rw packed (search (rules, selected-fits c.number-from.result c.number-mask.result 32 16 few))

pub returns-then-wide : goal.returns-then-wide
returns-then-wide c =
    let packed =
    all-packed _ c.loop-mask.packed c.loop-mask.ones c.loop-mask.from c.loop-mask.mask c.loop-mask-test.false
    c.loop-mask.invariant.packed in
    let ones = all-placed _ c.loop-mask.ones c.loop-mask.mask c.loop-mask-test.false c.loop-mask.invariant.ones in
    c.thirty_two.ensures ∙ selected-wide c.args.left c.args.right _ _ _ c.number-from.ensures.value
    c.number-mask.ensures.value packed (omega (arith, ones))

pub returns-else-wide : goal.returns-else-wide
returns-else-wide c =
    let packed =
    all-packed _ c.loop-mask.packed c.loop-mask.ones c.loop-mask.from c.loop-mask.mask c.loop-mask-test.false
    c.loop-mask.invariant.packed in
    let ones = all-placed _ c.loop-mask.ones c.loop-mask.mask c.loop-mask-test.false c.loop-mask.invariant.ones in
    c.sixteen.ensures ∙ selected-narrow c.args.left c.args.right _ _ _ c.number-from.ensures.value
    c.number-mask.ensures.value packed (omega (arith, ones))
