use Rattle.ick_code.proofs.CountLemmas.{Counted}
use Rattle.ick_code.proofs.counts.most_operands.Given as goal

abbrev pub invariant-loop-op : goal.invariant-loop-op
invariant-loop-op l = Counted l.ops l.op-index l.count l.most
