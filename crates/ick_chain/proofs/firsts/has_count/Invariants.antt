use Rattle.ick_chain.proofs.FirstLaws.{HasNoCountBelow}
use Rattle.ick_chain.proofs.firsts.has_count.Given as goal

abbrev pub invariant-counts : goal.invariant-counts
invariant-counts l = HasNoCountBelow l.counts l.at
