use Rattle.std.proofs.Common.{take}
use Rattle.ick_places.specs.Walks.{Adds}
use Rattle.ick_places.proofs.walker.Walker.append.Given as goal

abbrev pub invariant-loop-mark : goal.invariant-loop-mark
invariant-loop-mark l = Adds l.fn.self l.self (take l.mark-index l.marks)
