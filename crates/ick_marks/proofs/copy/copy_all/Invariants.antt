use Rattle.std.proofs.Common.{map, take, ◌≡◌}
use Rattle.ick_marks.proofs.copy.copy_all.Given as goal

abbrev pub invariant-loop-item : goal.invariant-loop-item
invariant-loop-item g l = map g.T.Part.value l.copies.items ≡ take l.item-index (map g.T.Part.value l.items)
