use Rattle.ick_chain.proofs.Ranking.{HaveNumbersBelow}
use Rattle.ick_chain.proofs.firsts.ranks.Given as goal

abbrev pub invariant-nodes : goal.invariant-nodes
invariant-nodes l = HaveNumbersBelow l.lasts l.ranks.items l.at
