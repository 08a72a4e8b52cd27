use Rattle.std.proofs.Common.{◌≡◌, ◌-◌, ◌≤◌, ◌⊎◌, min}
use Rattle.ick_source.specs.Token.{cap, value_of_digits}
use Rattle.ick_stages.specs.Faults.{digits_in}
use Rattle.ick_stages.proofs.fault.number_of.Given as goal

abbrev pub invariant-loop-at : goal.invariant-loop-at
invariant-loop-at l = record {
  order : l.fn.span.from ≤ l.at;
  bound : (l.at ≤ l.fn.span.to) ⊎ (l.at ≡ l.fn.span.from);
  value : l.number ≡ min (value_of_digits (digits_in l.source l.fn.span.from (l.at - l.fn.span.from))) cap;
}
