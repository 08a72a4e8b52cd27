use Rattle.std.proofs.Common.{◌≡◌}
use Rattle.ick_inspect.specs.Positions.{position_in}
use Rattle.ick_inspect.proofs.positions.moved.Given as goal

abbrev pub invariant-loop-at : goal.invariant-loop-at
invariant-loop-at l = l.position ≡ position_in l.source l.at
