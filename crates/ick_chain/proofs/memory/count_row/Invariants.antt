use Rattle.std.proofs.Common.{◌≡◌, length}
use Rattle.ick_chain.proofs.KeptLaws.{AreMarked}
use Rattle.ick_chain.proofs.memory.count_row.Given as goal

abbrev pub invariant-row : goal.invariant-row
invariant-row l = record {
  same : length l.marks.items ≡ length l.fn.marks.items;
  marked : AreMarked l.marks.items l.stamp (length l.fn.marks.items) l.count;
}
