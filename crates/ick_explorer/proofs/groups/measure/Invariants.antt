use Rattle.std.proofs.Common.{◌≤◌, ◌-◌, List, Bool, length}
use Rattle.ick_explorer.specs.Readings.{IsCapped, IsRead}
use Rattle.ick_explorer.proofs.groups.measure.Given as goal

abbrev pub invariant-groups : goal.invariant-groups
invariant-groups l = record {
  within : l.at ≤ length l.text;
  read : (front : List Bool) × IsRead l.text l.last l.at front × IsCapped l.total (length front);
}

abbrev pub decreases-groups : goal.decreases-groups
decreases-groups l = length l.text - l.at
