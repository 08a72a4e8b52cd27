use Rattle.std.proofs.Common.{◌<◌, ◌≤◌, length, take, slice_index_or, refl, ap, sym, subst, ◌∙◌, arith}
use Rattle.std.proofs.lemmas.List.Elements.{All-get_or}
use Rattle.ick_numbers.specs.Values.{naturals}
use Rattle.ick_outcomes.proofs.Lists.{take-all}
use Rattle.ick_chain.specs.declared.chain.Node.TheVariants.{Ends}
use Rattle.ick_chain.specs.Chains.{passing}
use Rattle.ick_chain.specs.Places.{state_or, states_in}
use Rattle.ick_chain.specs.Rows.{rows_of, weight_of}
use Rattle.ick_chain.specs.Tallied.{of_states}
use Rattle.ick_chain.proofs.Placing.{got_in, or_got, states_long}
use Rattle.ick_chain.proofs.Ranking.{ranked_all, ranked_more}
use Rattle.ick_chain.proofs.RowLaws.{are_rows, ends_of, got_at, passing_more}
use Rattle.ick_chain.proofs.rows.rows_at.Goals as goal

pub file_node-requires : goal.file_node-requires
file_node-requires g c κs =
    let seen = g.P.States.seen c.args.program.now in
    let suits = g.P.States.suits c.args.program.now in
    let ss = states_in seen c.args.states.now in
    let long = states_long seen c.args.states.now in
    let within = c.nodes-test.true in
    let full = c.requires.full.long in
    let lt : c.nodes.at < length c.args.states.now = omega (arith, long, within, full) in
    let x = c.index-states-at.result in (
      (refl, tt),
      (
        subst suits (sym c.index-states-at.is) (All-get_or suits c.args.states.now c.nodes.at x lt c.requires.states),
        λ h. ends_of (g.P.States.text c.args.program.now) ss c.args.nodes.now c.nodes.at
            (slice_index_or c.args.nodes.now c.nodes.at Ends) (seen x).state c.requires.full
            (got_at c.args.nodes.now c.nodes.at Ends within)
            (got_in seen c.args.states.now c.nodes.at x lt c.index-states-at.is) h,
      ),
    )

pub nodes-preserved : goal.nodes-preserved
nodes-preserved g c =
    let seen = g.P.States.seen c.args.program.now in
    let ss = states_in seen c.args.states.now in
    let long = states_long seen c.args.states.now in
    let within = c.nodes-test.true in
    let full = c.requires.full.long in
    let lt : c.nodes.at < length c.args.states.now = omega (arith, long, within, full) in
    record {
      weights = λ d q.
          passing_more (λ i. of_states q (state_or d ss i)) c.args.nodes.now c.args.visits.now c.nodes.at Ends
          c.index-visits-at.result (of_states q (seen c.index-states-at.result).state)
          (weight_of q (rows_of c.nodes.table.rows.items)) (weight_of q (rows_of c.file_node.new.table.rows.items)) within
          c.requires.visits c.index-visits-at.is
          (ap (of_states q) (or_got ss c.nodes.at d (seen c.index-states-at.result).state
          (got_in seen c.args.states.now c.nodes.at c.index-states-at.result lt c.index-states-at.is)))
          (c.nodes.invariant.weights d q) (c.in_ok-file_node.ensures.grow.added q);
      apart = c.in_ok-file_node.ensures.grow.apart c.nodes.invariant.apart;
      ranked = ranked_more (g.P.States.text c.args.program.now) ss c.args.nodes.now c.args.ranks.now
          c.nodes.table.rows.items c.file_node.new.table.rows.items c.nodes.at (seen c.index-states-at.result).state
          (slice_index_or c.args.nodes.now c.nodes.at Ends) c.rank_at-rank.result
          (got_at c.args.nodes.now c.nodes.at Ends within)
          (got_in seen c.args.states.now c.nodes.at c.index-states-at.result lt c.index-states-at.is)
          c.rank_at-rank.ensures c.in_ok-file_node.ensures.kept c.in_ok-file_node.ensures.ranked c.nodes.invariant.ranked;
    }

pub returns-clause-ranked : goal.returns-clause-ranked
returns-clause-ranked g c =
    let stop = c.nodes-test.false in
    ranked_all (g.P.States.text c.args.program.now) (states_in (g.P.States.seen c.args.program.now) c.args.states.now)
    c.args.nodes.now c.args.ranks.now c.nodes.table.rows.items c.nodes.at (omega (arith, stop))
    c.nodes.invariant.ranked

pub returns-clause-rows : goal.returns-clause-rows
returns-clause-rows g c = λ d.
    let ss = states_in (g.P.States.seen c.args.program.now) c.args.states.now in
    let stop = c.nodes-test.false in
    let all : length c.args.nodes.now ≤ c.nodes.at = omega (arith, stop) in
    let same = c.requires.visits in
    let each : length c.args.visits.now ≤ c.nodes.at = omega (arith, all, same) in
    are_rows (λ q. passing (λ i. q (state_or d ss i)) c.args.nodes.now (naturals c.args.visits.now))
    (rows_of c.nodes.table.rows.items) c.nodes.invariant.apart
    (λ q. c.nodes.invariant.weights d q
    ∙ (ap (λ z. passing (λ i. of_states q (state_or d ss i)) z (naturals (take c.nodes.at c.args.visits.now)))
    (take-all c.args.nodes.now c.nodes.at all)
    ∙ ap (λ z. passing (λ i. of_states q (state_or d ss i)) c.args.nodes.now (naturals z))
    (take-all c.args.visits.now c.nodes.at each)))
