use Rattle.ick_chain.proofs.Handing.{AreGradedBelow}
use Rattle.ick_chain.proofs.counts.are_graded.Given as goal

abbrev pub invariant-nodes : goal.invariant-nodes
invariant-nodes l = AreGradedBelow l.nodes l.grades l.at
