use Rattle.std.proofs.Common.{ℕ, ◌<◌, ◌≡◌, false, get_or}
use Rattle.ick_runtime.specs.Status.{is_abstained}
use Rattle.ick_states.proofs.hashing.some_abstained.Given as goal

abbrev pub invariant-loop-at : goal.invariant-loop-at
invariant-loop-at l = l.some ≡ false → (k : ℕ) → k < l.at → is_abstained (get_or l.statuses k 0) ≡ false
