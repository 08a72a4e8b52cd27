use Rattle.std.proofs.Common.{◌≡◌, ◌*◌, take}
use Rattle.ick_outcomes.proofs.comparing.same_front.Given as goal

abbrev pub invariant-fronts : goal.invariant-fronts
invariant-fronts l = take (l.block * 64) l.one ≡ take (l.block * 64) l.other
