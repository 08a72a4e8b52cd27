use Rattle.std.proofs.Common.{◌≡◌, ◌≤◌, length, take}
use Rattle.ick_step.specs.History.{choices_in}
use Rattle.ick_session.proofs.counted.count_choices.Given as goal

abbrev pub invariant-loop-at : goal.invariant-loop-at
invariant-loop-at l = record {
  count : l.count ≡ length (choices_in (take l.at l.answers));
  within : l.count ≤ l.at;
}
