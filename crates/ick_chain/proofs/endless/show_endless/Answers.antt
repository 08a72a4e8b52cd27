use Rattle.std.proofs.Common.{◌<◌, length, arith}
use Rattle.ick_chain.proofs.EndlessLaws.{endless_more, endless_all}
use Rattle.ick_chain.proofs.endless.show_endless.Goals as goal

pub rows-preserved : goal.rows-preserved
rows-preserved g c = λ s h.
    let p = g.P.States.text c.args.program.now in
    let lt = c.rows-test.true in
    let same = c.if-counts-rows.false in
    let below : c.rows.at < length c.args.counts.now = omega (arith, lt, same) in
    endless_more p s c.args.rows.now c.args.counts.now c.rows.at c.index-rows-at.result c.index-counts-at.result
    c.rows-test.true below c.index-rows-at.is c.index-counts-at.is (c.in_ok-show_row.ensures s h) (c.rows.invariant s h)

pub returns : goal.returns
returns g c = λ s h.
    endless_all (g.P.States.text c.args.program.now) s c.args.rows.now c.args.counts.now c.rows.at c.rows-test.false
    (c.rows.invariant s h)
