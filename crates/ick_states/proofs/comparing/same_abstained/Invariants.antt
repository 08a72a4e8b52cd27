use Rattle.std.proofs.Common.{map, take, true, ◌≡◌}
use Rattle.ick_runtime.specs.Status.{is_abstained}
use Rattle.ick_states.proofs.comparing.same_abstained.Given as goal

abbrev pub invariant-loop-at : goal.invariant-loop-at
invariant-loop-at l = record {
  same : l.same ≡ true → take l.at (map is_abstained l.one) ≡ take l.at (map is_abstained l.other);
  found : map is_abstained l.one ≡ map is_abstained l.other → l.same ≡ true;
}
