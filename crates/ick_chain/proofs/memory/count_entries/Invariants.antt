use Rattle.std.proofs.Common.{◌≡◌, length}
use Rattle.ick_chain.proofs.KeptLaws.{AreCountedBelow}
use Rattle.ick_chain.proofs.memory.count_entries.Given as goal

abbrev pub invariant-rows : goal.invariant-rows
invariant-rows l = record {
  long : length l.marks.items ≡ l.count;
  counted : AreCountedBelow l.count l.at l.entries;
}
