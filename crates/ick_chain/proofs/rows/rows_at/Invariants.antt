use Rattle.std.proofs.Common.{◌≡◌, take}
use Rattle.ick_code.specs.meaning.State.{State}
use Rattle.ick_numbers.specs.Values.{naturals}
use Rattle.ick_outcomes.specs.Tallies.{Test as OutcomeTest}
use Rattle.ick_chain.specs.Chains.{passing}
use Rattle.ick_chain.specs.Places.{state_or, states_in}
use Rattle.ick_chain.specs.Rows.{AreDistinct, rows_of, weight_of}
use Rattle.ick_chain.specs.Tallied.{of_states}
use Rattle.ick_chain.proofs.Ranking.{AreRankedBelow}
use Rattle.ick_chain.proofs.rows.rows_at.Given as goal

abbrev pub invariant-nodes : goal.invariant-nodes
invariant-nodes g l = record {
  weights : (d : State) (q : OutcomeTest) → weight_of q (rows_of l.table.rows.items)
      ≡ passing (λ i. of_states q (state_or d (states_in (g.P.States.seen l.program) l.states) i))
      (take l.at l.nodes) (naturals (take l.at l.visits));
  apart : AreDistinct (rows_of l.table.rows.items);
  ranked : AreRankedBelow (g.P.States.text l.program) (states_in (g.P.States.seen l.program) l.states) l.nodes l.ranks
      l.table.rows.items l.at;
}
