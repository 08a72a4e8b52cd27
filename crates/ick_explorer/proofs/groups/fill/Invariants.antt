use Rattle.std.proofs.Common.{◌≤◌, ◌-◌, length}
use Rattle.ick_explorer.specs.Readings.{IsRead}
use Rattle.ick_explorer.proofs.groups.fill.Given as goal

abbrev pub invariant-groups : goal.invariant-groups
invariant-groups l = record {
  within : l.at ≤ length l.text;
  read : IsRead l.text l.last l.at l.choices.items;
}

abbrev pub decreases-groups : goal.decreases-groups
decreases-groups l = length l.text - l.at
