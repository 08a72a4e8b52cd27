use Rattle.std.proofs.Common.{map, take, ◌≡◌}
use Rattle.ick_states.proofs.parts.are_same.Given as goal

abbrev pub invariant-loop-at : goal.invariant-loop-at
invariant-loop-at g l = take l.at (map g.T.Part.value l.one) ≡ take l.at (map g.T.Part.value l.other)
