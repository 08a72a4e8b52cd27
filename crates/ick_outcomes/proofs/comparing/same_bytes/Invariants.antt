use Rattle.std.proofs.Common.{◌≡◌, take}
use Rattle.ick_outcomes.proofs.comparing.same_bytes.Given as goal

abbrev pub invariant-bytes : goal.invariant-bytes
invariant-bytes l = take l.at l.one ≡ take l.at l.other
