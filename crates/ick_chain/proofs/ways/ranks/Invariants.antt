use Rattle.ick_chain.proofs.Ranking.{HaveNumbersBelow}
use Rattle.ick_chain.proofs.ways.ranks.Given as goal

abbrev pub invariant-nodes : goal.invariant-nodes
invariant-nodes l = HaveNumbersBelow l.labels.of.items l.ranks.items l.at
