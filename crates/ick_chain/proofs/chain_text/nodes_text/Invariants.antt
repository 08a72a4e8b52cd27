use Rattle.ick_numbers.specs.Values.{natural, naturals}
use Rattle.ick_chain.specs.Places.{states_in}
use Rattle.ick_chain.specs.StatesTexts.{AreNodeTexts}
use Rattle.ick_chain.proofs.chain_text.nodes_text.Given as goal

abbrev pub invariant-nodes : goal.invariant-nodes
invariant-nodes g l = AreNodeTexts (g.P.States.text l.program) l.exact (natural l.answer.parts)
    (states_in (g.P.States.seen l.program) l.answer.chain.states.items) l.answer.chain.nodes.items
    (naturals l.answer.visits.items) l.at l.text.items
