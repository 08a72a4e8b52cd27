use Rattle.std.proofs.Common.{◌≡◌, ◌≤◌, ◌+◌, length, take}
use Rattle.ick_step.specs.Seen.{IsKept, start_of}
use Rattle.ick_step.proofs.backward.rewind.Given as goal

abbrev pub invariant-down : goal.invariant-down
invariant-down g l = record {
  kept : IsKept (g.M.Backtrack.seen l.machine) (take l.steps l.answers);
  program : (g.M.Backtrack.seen l.machine).program ≡ (g.M.Backtrack.seen l.initial.machine).program;
  start : start_of (g.M.Backtrack.seen l.machine) ≡ start_of (g.M.Backtrack.seen l.initial.machine);
  work : (g.M.Backtrack.seen l.machine).work ≡ (g.M.Backtrack.seen l.initial.machine).work;
  within : l.steps ≤ length l.answers;
  near : l.target ≤ l.steps + 1000;
}

abbrev pub decreases-down : goal.decreases-down
decreases-down g l = length (g.M.Backtrack.seen l.machine).marks
