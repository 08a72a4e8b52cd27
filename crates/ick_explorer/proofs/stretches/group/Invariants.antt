use Rattle.std.proofs.Common.{◌≡◌, ◌≤◌, ◌-◌, length, take}
use Rattle.ick_explorer.specs.ChoiceTexts.{stretches}
use Rattle.ick_explorer.specs.Choices.{seen_stretches}
use Rattle.ick_explorer.proofs.stretches.group.Given as goal

abbrev pub invariant-loop-at : goal.invariant-loop-at
invariant-loop-at l = record {
  within : l.at ≤ length l.choices;
  kept : seen_stretches l.kept.items ≡ stretches (take l.at l.choices);
}

abbrev pub decreases-loop-at : goal.decreases-loop-at
decreases-loop-at l = length l.choices - l.at
