use Rattle.std.proofs.Common.{◌≡◌, drop, length}
use Rattle.ick_runtime.proofs.OffsetLemmas.{inside, walk}
use Rattle.ick_session.proofs.outcomes.offset_of.Given as goal

abbrev pub invariant-loop-at : goal.invariant-loop-at
invariant-loop-at l =
    inside (length l.elements) (walk l.offset (drop l.at l.dimensions) (drop l.at l.subs))
    ≡ inside (length l.elements) (walk 0 l.dimensions l.subs)
