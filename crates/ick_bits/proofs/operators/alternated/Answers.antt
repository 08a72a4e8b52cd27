use Rattle.std.proofs.Common.{◌≡◌, ◌+◌, ◌*◌, arith, rules, sym}
use Rattle.ick_bits.specs.Operators.{with_bits, mingled_bit}
use Rattle.ick_bits.proofs.OperatorSteps.{mingled-whole, alternated-fits}
use Rattle.ick_bits.proofs.operators.alternated.Goals as goal

pub returns : goal.returns
returns c = omega (arith, mingled-whole c.args.high c.args.low 16, c.spread.ensures.value, c.spread-2.ensures.value)

pub overflow_add-result : goal.overflow_add-result
overflow_add-result c =
    let whole : with_bits 32 (mingled_bit c.args.high c.args.low) ≡ 2 * c.spread.result + c.spread-2.result =
    omega (arith, mingled-whole c.args.high c.args.low 16, c.spread.ensures.value, c.spread-2.ensures.value) in
    rw (sym whole) (search (rules, alternated-fits c.args.high c.args.low))
