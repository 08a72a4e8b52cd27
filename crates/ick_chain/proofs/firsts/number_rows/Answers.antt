use Rattle.std.proofs.Common.{[], arith}
use Rattle.ick_code.specs.meaning.Move.{first_state}
use Rattle.ick_chain.specs.Places.{states_in}
use Rattle.ick_chain.proofs.Ranking.{are_numbered}
use Rattle.ick_chain.proofs.firsts.number_rows.Goals as goal

pub returns : goal.returns
returns g c =
    let answer = c.args.answer.now in
    let same = c.if-len.false in
    let one = c.len.ensures in
    let other = c.len-2.ensures in
    record {
      lasts = rw (c.deref-else-len.ensures.value, c.deref-else-len-2.ensures.value) at
          (c.are_lasts.ensures c.if-not-are_lasts.false);
      distinct = (c.in_ok-rows.ensures.rows (first_state [] [])).distinct;
      ranked = are_numbered (g.P.States.text c.args.program.now)
          (states_in (g.P.States.seen c.args.program.now) answer.chain.states.items) answer.chain.nodes.items
          c.in_ok-lasts.lasts.items c.in_ok-ranks.ranks.items c.in_ok-rows.rows.items (omega (arith, same, one, other))
          (rw c.deref-2.ensures.value at c.in_ok-ranks.ensures)
          (rw (c.deref-3.ensures.value, c.deref-4.ensures.value, c.deref-6.ensures.value) at
          c.in_ok-rows.ensures.ranked);
    }
