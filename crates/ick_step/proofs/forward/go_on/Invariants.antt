use Rattle.std.proofs.Common.{◌≡◌, ◌≤◌, ◌-◌}
use Rattle.ick_step.specs.Seen.{IsKept, seen_at, later}
use Rattle.ick_step.proofs.forward.go_on.Given as goal

abbrev pub invariant-steps : goal.invariant-steps
invariant-steps g l = record {
  within : l.made ≤ l.limit;
  kept : IsKept (g.M.Backtrack.seen l.machine) l.answers.items;
  made : seen_at (g.M.Backtrack.seen l.machine) l.answers.items
      ≡ later l.made (seen_at (g.M.Backtrack.seen l.initial.machine) l.initial.answers.items);
}

abbrev pub decreases-steps : goal.decreases-steps
decreases-steps g l = l.limit - l.made
