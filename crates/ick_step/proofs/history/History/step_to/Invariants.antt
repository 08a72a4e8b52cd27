use Rattle.std.proofs.Common.{◌≡◌, ◌≤◌, ◌<◌, ◌+◌, ◌-◌, ◌^◌}
use Rattle.ick_step.specs.Arrival.{has_come}
use Rattle.ick_step.specs.Seen.{seen_at, later}
use Rattle.ick_step.proofs.ArrivalLaws.{NotYet}
use Rattle.ick_step.proofs.history.History.step_to.Given as goal

abbrev pub invariant-on : goal.invariant-on
invariant-on g l = record {
  within : l.made ≤ l.limit;
  made : seen_at (g.M.Backtrack.seen l.self.machine) l.self.answers.items
      ≡ later l.made (seen_at (g.M.Backtrack.seen l.initial.self.machine) l.initial.self.answers.items);
  before : NotYet (has_come l.target)
      (seen_at (g.M.Backtrack.seen l.initial.self.machine) l.initial.self.answers.items) l.made;
  room : 0 < l.made →
      (g.M.Backtrack.seen l.initial.self.machine).work + 1 < 2 ^ 64;
}

abbrev pub decreases-on : goal.decreases-on
decreases-on g l = l.limit - l.made
