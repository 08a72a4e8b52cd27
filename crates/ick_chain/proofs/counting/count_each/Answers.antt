use Rattle.std.proofs.Common.{◌≡◌, length, arith}
use Rattle.ick_chain.proofs.CountedRows.{all_counted, count_push, counts_long}
use Rattle.ick_chain.proofs.counting.count_each.Goals as goal

pub rows-preserved : goal.rows-preserved
rows-preserved c =
    let within = c.rows-test.true in
    let counted = c.if-counted-rows.false in
    let endless = c.if-endless-rows.false in
    record {
      long = counts_long c.rows.counts.items c.add_count.new.counts.items c.in_ok-count.count c.rows.at
          c.rows.invariant.long c.in_ok-add_count.ensures;
      each = count_push c.args.rows.now c.args.counted.now c.args.endless.now c.rows.counts.items
          c.add_count.new.counts.items c.in_ok-count.count c.index-rows-at.result c.index-counted-at.result
          c.index-endless-at.result c.rows.at c.rows.invariant.long within (omega (arith, within, counted))
          (omega (arith, within, endless)) c.index-rows-at.is c.index-counted-at.is c.index-endless-at.is
          c.in_ok-count.ensures c.in_ok-add_count.ensures c.rows.invariant.each;
    }

pub returns : goal.returns
returns c =
    let long = c.rows.invariant.long in
    let stop = c.rows-test.false in
    let within = c.rows.auto.at-end in
    let all : length c.rows.counts.items ≡ length c.args.rows.now = omega (arith, long, stop, within) in
    all_counted c.args.rows.now c.args.counted.now c.args.endless.now c.rows.counts.items all c.rows.invariant.each
