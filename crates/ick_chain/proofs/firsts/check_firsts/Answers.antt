use Rattle.std.proofs.Common.{◌<◌, length, arith}
use Rattle.ick_chain.specs.Places.{states_in}
use Rattle.ick_chain.proofs.FirstLaws.{soonest_all, soonest_more}
use Rattle.ick_chain.proofs.firsts.check_firsts.Goals as goal

pub rows-preserved : goal.rows-preserved
rows-preserved g c = λ s h.
    let p = g.P.States.text c.args.program.now in
    let answer = c.args.answer.now in
    let ss = states_in (g.P.States.seen c.args.program.now) answer.chain.states.items in
    let lt = c.rows-test.true in
    let counts = c.if-counts-rows.false in
    let shown = c.if-shown-rows.false in
    let lc : c.rows.at < length c.args.counts.now = omega (arith, lt, counts) in
    let ls : c.rows.at < length c.args.shown.now = omega (arith, lt, shown) in
    let checked = rw (c.deref.ensures.value, c.deref-in-rows.ensures.value) at c.in_ok-check_row.ensures in
    soonest_more p s c.args.rows.now c.args.counts.now c.args.shown.now c.rows.at c.index-rows-at.result
    c.index-counts-at.result c.index-shown-at.result c.rows-test.true lc ls c.index-rows-at.is c.index-counts-at.is
    c.index-shown-at.is (λ n e. checked p ss s n c.requires.full h c.in_ok-numbered.ensures e) (c.rows.invariant s h)

pub returns : goal.returns
returns g c = λ s h.
    soonest_all (g.P.States.text c.args.program.now) s c.args.rows.now c.args.counts.now c.args.shown.now c.rows.at
    c.rows-test.false (c.rows.invariant s h)
