use Rattle.std.proofs.Common.{map, take, ◌≡◌}
use Rattle.ick_runtime.specs.View.{is_hidden}
use Rattle.ick_states.proofs.comparing.same_hidden.Given as goal

abbrev pub invariant-loop-at : goal.invariant-loop-at
invariant-loop-at l = take l.at (map is_hidden l.one) ≡ take l.at (map is_hidden l.other)
