use Rattle.std.proofs.Common.{◌≡◌, ◌+◌, drop}
use Rattle.ick_outcomes.specs.Texts.{leading}
use Rattle.ick_outcomes.proofs.cut.count_leading.Given as goal

abbrev pub invariant-loop-at : goal.invariant-loop-at
invariant-loop-at l = leading l.text ≡ l.at + leading (drop l.at l.text)
