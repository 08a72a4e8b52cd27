use Rattle.std.proofs.Common.{◌≡◌, ◌<◌, ◌≤◌, ◌-◌, false, get_or, length, take}
use Rattle.std.specs.Prelude.{replicate}
use Rattle.ick_explorer.proofs.choice_texts.stretch.Given as goal

abbrev pub invariant-loop-size : goal.invariant-loop-size
invariant-loop-size l = record {
  some : 0 < l.size;
  within : l.size ≤ length l.choices;
  same : take l.size l.choices ≡ replicate l.size (get_or l.choices 0 false);
}

abbrev pub decreases-loop-size : goal.decreases-loop-size
decreases-loop-size l = length l.choices - l.size
