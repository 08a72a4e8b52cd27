use Rattle.std.proofs.Common.{◌≡◌, take}
use Rattle.ick_outcomes.specs.Askers.{askers_text}
use Rattle.ick_outcomes.proofs.following.asked_text.Given as goal

abbrev pub invariant-askers : goal.invariant-askers
invariant-askers l = l.text.items ≡ askers_text (take l.at l.asked)
