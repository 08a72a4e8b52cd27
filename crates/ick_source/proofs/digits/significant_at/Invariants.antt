use Rattle.std.proofs.Common.{◌≡◌, ◌-◌, ◌≤◌, ◌++◌, drop, length, slice_range}
use Rattle.ick_source.specs.Digits.{significant}
use Rattle.ick_source.specs.Reading.{digits_of}
use Rattle.ick_source.proofs.digits.significant_at.Given as goal

abbrev pub invariant-zeros : goal.invariant-zeros
invariant-zeros l = record {
  inside : l.from ≤ length l.text;
  same : significant (digits_of (drop l.from l.text)) ≡ significant (digits_of (drop l.at l.text));
}

abbrev pub decreases-zeros : goal.decreases-zeros
decreases-zeros l = length l.text - l.from

abbrev pub invariant-digits : goal.invariant-digits
invariant-digits l = record {
  order : l.from ≤ l.to;
  inside : l.to ≤ length l.text;
  same : slice_range l.text l.from l.to ++ digits_of (drop l.to l.text) ≡ digits_of (drop l.from l.text);
}

abbrev pub decreases-digits : goal.decreases-digits
decreases-digits l = length l.text - l.to
