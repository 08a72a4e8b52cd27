use Rattle.std.proofs.Common.{ap, arith}
use Rattle.ick_bits.specs.Values.{Narrow, Wide}
use Rattle.ick_bits.specs.Operators.{unary}
use Rattle.ick_bits.proofs.OperatorLemmas.{or-rotated}
use Rattle.ick_bits.proofs.ValueLemmas.{narrow-of, wide-of}
use Rattle.ick_bits.proofs.operators.unary_or.Goals as goal

pub returns-in-Sixteen : goal.returns-in-Sixteen
unfolding unary
returns-in-Sixteen c =
    let value =
    narrow-of c.args.value c.number-bits.result c.in-Sixteen.ensures c.number-bits.ensures.value
    c.number-bits.ensures.fits in
    rw (c.sixteen.ensures, value.0, c.rotate_right.ensures)
    (ap Narrow (or-rotated 15 c.number-bits.result (omega (arith, value.1))))

pub returns-in-ThirtyTwo : goal.returns-in-ThirtyTwo
unfolding unary
returns-in-ThirtyTwo c =
    let value =
    wide-of c.args.value c.number-bits-in-ThirtyTwo.result c.in-ThirtyTwo.ensures
    c.number-bits-in-ThirtyTwo.ensures.value c.number-bits-in-ThirtyTwo.ensures.fits in
    rw (c.thirty_two.ensures, value.0, c.rotate_right-in-ThirtyTwo.ensures)
    (ap Wide (or-rotated 31 c.number-bits-in-ThirtyTwo.result (omega (arith, value.1))))
