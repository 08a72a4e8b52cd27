use Rattle.std.proofs.Common.{◌≡◌, length}
use Rattle.ick_explorer.proofs.walk.reset.Given as goal

abbrev pub invariant-loop-machine : goal.invariant-loop-machine
invariant-loop-machine g l = (g.M.Backtrack.seen l.machine).program ≡ (g.M.Backtrack.seen l.initial.machine).program

abbrev pub decreases-loop-machine : goal.decreases-loop-machine
decreases-loop-machine g l = length (g.M.Backtrack.seen l.machine).marks
