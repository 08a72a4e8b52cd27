use Rattle.std.proofs.Common.{◌≡◌, length}
use Rattle.ick_numbers.specs.Values.{naturals}
use Rattle.ick_chain.proofs.CountedRows.{AreMarksBelow}
use Rattle.ick_chain.proofs.counting.marks.Given as goal

abbrev pub invariant-nodes : goal.invariant-nodes
invariant-nodes l = record {
  long : length l.marks.items ≡ l.at;
  each : AreMarksBelow l.grades (naturals l.marks.items) l.at;
}
