-- Defines what the answer of a search says: a chain, and how often its nodes are visited.
use Rattle.ick_outcomes.specs.Programs.{Program}
use Rattle.ick_numbers.specs.Values.{natural, naturals}
use Rattle.ick_outcomes.specs.Accounts.{Configuration}
use Rattle.ick_chain.specs.Chains.{IsSolution}
use Rattle.ick_chain.specs.Places.{AllSuit, IsFull, states_in}
use Rattle.ick_chain.specs.declared.answer.Answer.{Answer}

-- each state is of the program, each node says what its state asks and where it leads, and the visits are right
pub record IsAnswer {S : Type 0} (p : Program) (seen : S → Configuration) (suits : S → Type 0) (a : Answer S)
    : Type 0 where
  pub states : AllSuit suits a.chain.states.items
  pub full : IsFull p (states_in seen a.chain.states.items) a.chain.nodes.items
  pub solution : IsSolution a.chain.nodes.items (natural a.parts) (naturals a.visits.items)
