use Rattle.ick_chain.proofs.StretchLaws.{AreStretchedBelow}
use Rattle.ick_chain.proofs.stretched.are_stretched.Given as goal

abbrev pub invariant-nodes : goal.invariant-nodes
invariant-nodes l = AreStretchedBelow l.nodes l.most l.at
