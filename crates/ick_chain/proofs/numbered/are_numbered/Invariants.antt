use Rattle.std.proofs.Common.{◌≤◌, length}
use Rattle.ick_chain.specs.Numbered.{AreNumbered}
use Rattle.ick_chain.proofs.numbered.are_numbered.Given as goal

abbrev pub invariant-nodes : goal.invariant-nodes
invariant-nodes l = record {
  numbered : AreNumbered l.nodes l.at l.count;
  within : l.at ≤ length l.nodes;
}
