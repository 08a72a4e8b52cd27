use Rattle.std.proofs.Common.{◌≡◌, map, drop}
use Rattle.ick_runtime.specs.Status.{is_abstained}
use Rattle.ick_states.specs.Hashed.{mix_places}
use Rattle.ick_states.proofs.hashing.mix_abstained.Given as goal

abbrev pub invariant-loop-at : goal.invariant-loop-at
invariant-loop-at l =
    mix_places l.fn.hash 0 (map is_abstained l.statuses)
    ≡ mix_places l.hash l.at (drop l.at (map is_abstained l.statuses))
