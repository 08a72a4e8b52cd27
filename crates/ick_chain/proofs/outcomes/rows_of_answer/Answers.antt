use Rattle.ick_chain.specs.Places.{states_in}
use Rattle.ick_chain.proofs.LongNumbers.{if_ok}
use Rattle.ick_chain.proofs.Ranking.{are_numbered}
use Rattle.ick_chain.proofs.outcomes.rows_of_answer.Goals as goal

pub returns-clause-rows : goal.returns-clause-rows
returns-clause-rows g c =
    rw (c.deref.ensures.value, c.deref-2.ensures.value, c.deref-3.ensures.value) at c.rows_at.ensures.rows

pub returns-clause-ranked : goal.returns-clause-ranked
returns-clause-ranked g c =
    let answer = c.args.answer.now in
    if_ok _ _ c.rows_at.result
    (λ rows h. are_numbered (g.P.States.text c.args.program.now)
    (states_in (g.P.States.seen c.args.program.now) answer.chain.states.items) answer.chain.nodes.items
    c.args.labels.now.of.items c.in_ok-ranks.ranks.items rows.items c.requires.labels c.in_ok-ranks.ensures h)
    (rw (c.deref.ensures.value, c.deref-2.ensures.value, c.deref-4.ensures.value) at c.rows_at.ensures.ranked)
