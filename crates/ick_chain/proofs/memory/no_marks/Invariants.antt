use Rattle.std.proofs.Common.{◌≡◌, length}
use Rattle.ick_chain.proofs.memory.no_marks.Given as goal

abbrev pub invariant-nodes : goal.invariant-nodes
invariant-nodes l = length l.marks.items ≡ l.at
