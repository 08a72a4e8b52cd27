use Rattle.std.proofs.Common.{refl}
use Rattle.ick_source.proofs.BoundaryLemmas.{boundary_inside}
use Rattle.ick_source.proofs.SeenLemmas.{seen_nothing, seen_something}
use Rattle.ick_source.proofs.seen.see_front.Goals as goal

pub returns-then-begin-start-clause-read : goal.returns-then-begin-start-clause-read
returns-then-begin-start-clause-read c =
    seen_nothing c.after_white-begin.ensures.gap c.next_boundary-start.ensures c.if-begin-start.true
    c.after_white-begin.ensures.within c.requires

pub trimmed-requires-clause-within : goal.trimmed-requires-clause-within
trimmed-requires-clause-within c = boundary_inside c.next_boundary-start.ensures.boundary

pub returns-clause-read : goal.returns-clause-read
returns-clause-read c =
    seen_something c.after_white-begin.ensures.gap c.next_boundary-start.ensures c.if-begin-start.false
    c.trimmed.ensures c.requires c.in_ok-push.ensures.items
    (record { reads = record { faults = refl; clamped = refl }; label = tt; used = tt }) refl
