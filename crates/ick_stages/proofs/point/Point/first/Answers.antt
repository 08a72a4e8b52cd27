use Rattle.std.proofs.Common.{arith, refl}
use Rattle.ick_inspect.specs.Positions.{position_in}
use Rattle.ick_stages.proofs.point.Point.first.Goals as goal

pub returns-clause-point : goal.returns-clause-point
unfolding position_in
returns-clause-point c source = record { within = omega arith; position = refl }
