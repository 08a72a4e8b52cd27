use Rattle.std.proofs.Common.{◌≤◌, ◌-◌, length, take}
use Rattle.std.specs.Str.Parse.{AllDigits, digits_value}
use Rattle.ick_explorer.specs.Readings.{IsCapped}
use Rattle.ick_explorer.proofs.groups.read_digits.Given as goal

abbrev pub invariant-loop-count : goal.invariant-loop-count
invariant-loop-count l = record {
  within : l.count ≤ length l.text;
  digits : AllDigits 10 (take l.count l.text);
  value : IsCapped l.value (digits_value 10 (take l.count l.text));
}

abbrev pub decreases-loop-count : goal.decreases-loop-count
decreases-loop-count l = length l.text - l.count
