use Rattle.std.proofs.Common.{◌-◌, length}
use Rattle.ick_explorer.specs.Paths.{RunsTo}
use Rattle.ick_runs.specs.Chosen.{chosen_of, AreGiven, Picks}
use Rattle.ick_runs.proofs.drive.drive.Given as goal

abbrev pub invariant-on : goal.invariant-on
invariant-on g l =
    let first = g.M.Backtrack.seen l.initial.machine in
    record {
      runs : RunsTo l.limit first l.choices.items (g.M.Backtrack.seen l.machine) l.steps;
      given : AreGiven first.program first.state l.limit (chosen_of l.chooser) l.choices.items;
      picks : Picks (chosen_of l.chooser) (length l.choices.items) l.picker;
    }

abbrev pub decreases-on : goal.decreases-on
decreases-on g l = l.limit - l.steps
