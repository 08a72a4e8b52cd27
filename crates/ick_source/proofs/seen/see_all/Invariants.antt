use Rattle.std.proofs.Common.{◌+◌, ◌-◌, ◌*◌, ◌≤◌, length}
use Rattle.ick_source.specs.Refusals.{longest}
use Rattle.ick_source.specs.SeenAnswers.{HasSeenUpTo}
use Rattle.ick_source.proofs.seen.see_all.Given as goal

abbrev pub invariant-statements : goal.invariant-statements
invariant-statements l = record {
  read : HasSeenUpTo l.text l.at l.seen.items;
  count : 2 * length l.seen.items ≤ l.at + 1;
  fits : length l.text ≤ longest;
}

abbrev pub decreases-statements : goal.decreases-statements
decreases-statements l = length l.text - l.at
