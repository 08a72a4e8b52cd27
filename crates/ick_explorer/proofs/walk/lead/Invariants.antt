use Rattle.std.proofs.Common.{◌≡◌, ◌≤◌, ◌+◌, ◌-◌, length}
use Rattle.ick_explorer.specs.Walks.{Goes}
use Rattle.ick_explorer.proofs.walk.lead.Given as goal

abbrev pub invariant-on : goal.invariant-on
invariant-on g l = record {
  goes : Goes l.way l.limit (g.M.Backtrack.seen l.initial.machine) l.initial.path.choices
      l.initial.path.points.items l.start (g.M.Backtrack.seen l.machine) l.path.choices l.path.points.items
      l.steps;
  count : length l.path.choices ≡ length l.initial.path.choices + l.used;
  few : l.used ≤ l.steps;
}

abbrev pub decreases-on : goal.decreases-on
decreases-on g l = l.limit - l.steps
