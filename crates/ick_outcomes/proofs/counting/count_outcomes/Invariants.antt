use Rattle.std.proofs.Common.{[]}
use Rattle.ick_outcomes.specs.Searches.{IsAccount, height}
use Rattle.ick_outcomes.specs.Weights.{amount}
use Rattle.ick_outcomes.proofs.counting.count_outcomes.Given as goal

abbrev pub invariant-rounds : goal.invariant-rounds
invariant-rounds g l = record {
  account : IsAccount (g.P.States.seen l.program) (g.P.States.suits l.program) (record {
    at = g.P.States.seen l.program l.fn.state;
    left = l.limit;
    count = 1;
    weight = amount 1 0 l.limit;
    choices = [];
  }) l.search;
  tools : g.P.States.serves l.program l.tools;
}

abbrev pub decreases-rounds : goal.decreases-rounds
decreases-rounds g l = height l.search.buckets.items
