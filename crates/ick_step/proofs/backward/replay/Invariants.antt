use Rattle.std.proofs.Common.{◌≡◌, ◌≤◌, ◌+◌, ◌-◌, length, take}
use Rattle.ick_step.specs.Seen.{IsKept, start_of}
use Rattle.ick_step.proofs.backward.replay.Given as goal

abbrev pub invariant-again : goal.invariant-again
invariant-again g l = record {
  kept : IsKept (g.M.Backtrack.seen l.machine) (take l.steps l.answers);
  program : (g.M.Backtrack.seen l.machine).program ≡ (g.M.Backtrack.seen l.initial.machine).program;
  start : start_of (g.M.Backtrack.seen l.machine) ≡ start_of (g.M.Backtrack.seen l.initial.machine);
  work : (g.M.Backtrack.seen l.machine).work + l.from ≡ (g.M.Backtrack.seen l.initial.machine).work + l.steps;
  from : l.from ≤ l.steps;
  within : l.steps ≤ length l.answers;
}

abbrev pub decreases-again : goal.decreases-again
decreases-again g l = length l.answers - l.steps
