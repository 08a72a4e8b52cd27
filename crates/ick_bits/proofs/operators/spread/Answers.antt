use Rattle.std.proofs.Common.{arith}
use Rattle.ick_bits.proofs.OperatorSteps.{spread-bytes}
use Rattle.ick_bits.proofs.operators.spread.Goals as goal

pub returns-clause-value : goal.returns-clause-value
returns-clause-value c =
    omega (arith, spread-bytes c.args.number, c.spread_byte.ensures.value, c.spread_byte-2.ensures.value)
