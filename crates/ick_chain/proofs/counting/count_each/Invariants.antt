use Rattle.std.proofs.Common.{◌≡◌, length}
use Rattle.ick_chain.proofs.CountedRows.{EachCounted}
use Rattle.ick_chain.proofs.counting.count_each.Given as goal

abbrev pub invariant-rows : goal.invariant-rows
invariant-rows l = record {
  long : length l.counts.items ≡ l.at;
  each : EachCounted l.rows l.counted l.endless l.counts.items;
}
