use Rattle.std.proofs.Common.{◌∙◌, arith, length}
use Rattle.ick_chain.proofs.KeptLaws.{below_next}
use Rattle.ick_chain.proofs.memory.count_entries.Goals as goal

pub rows-preserved : goal.rows-preserved
rows-preserved c = record {
  long = c.count_at-more.ensures.same ∙ c.rows.invariant.long;
  counted = below_next c.args.count (length c.rows.marks.items) c.rows.at c.rows.entries c.count_at-more.result
      c.saturating_add-entries.result c.rows.invariant.long c.count_at-more.ensures.counted
      (let most = c.saturating_add-entries.ensures in omega (arith, most)) c.rows.invariant.counted;
}
