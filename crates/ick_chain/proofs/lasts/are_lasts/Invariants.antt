use Rattle.ick_chain.proofs.FirstLaws.{AreLastsBelow}
use Rattle.ick_chain.proofs.lasts.are_lasts.Given as goal

abbrev pub invariant-nodes : goal.invariant-nodes
invariant-nodes l = AreLastsBelow l.nodes l.lasts l.at
