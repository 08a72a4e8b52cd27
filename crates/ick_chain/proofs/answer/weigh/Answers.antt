use Rattle.std.proofs.Common.{subst}
use Rattle.ick_numbers.specs.Values.{natural, naturals}
use Rattle.ick_chain.specs.Chains.{IsExact, IsSolution, passing, never, all_steps}
use Rattle.ick_chain.specs.Places.{states_in, state_or}
use Rattle.ick_chain.proofs.Placing.{chain_of, first_is}
use Rattle.ick_chain.proofs.Answers.{exact}
use Rattle.ick_chain.proofs.Progressing.{shows_more}
use Rattle.ick_chain.proofs.answer.weigh.Goals as goal

pub returns-clause-exact : goal.returns-clause-exact
returns-clause-exact g c =
    let p = g.P.States.text c.args.program.now in
    let seen = g.P.States.seen c.args.program.now in
    let s = (seen c.args.state).state in
    let chain = c.in_ok-chain.chain in
    let ss = states_in seen chain.states.items in
    let nodes = chain.nodes.items in
    let visits = naturals c.in_ok-solution.solution.numbers.items in
    let parts = natural c.in_ok-solution.solution.parts in
    let h : IsSolution nodes parts visits =
    subst (λ z. IsSolution z parts visits) c.deref-2.ensures.value c.in_ok-solution.ensures.solved in
    subst (λ z. IsExact p z parts (λ q. passing (λ i. q (state_or s ss i)) nodes visits) (never nodes visits)
    (all_steps nodes visits))
    (first_is ss s s c.in_ok-chain.ensures.first)
    (exact p (state_or s ss) nodes (chain_of p ss nodes s c.in_ok-chain.ensures.full) h.closed 0 parts visits
    h.some h.are_visits)

pub returns-clause-answer : goal.returns-clause-answer
returns-clause-answer g c =
    let nodes = c.in_ok-chain.chain.nodes.items in
    let visits = naturals c.in_ok-solution.solution.numbers.items in
    let parts = natural c.in_ok-solution.solution.parts in
    record {
      states = c.in_ok-chain.ensures.states;
      full = c.in_ok-chain.ensures.full;
      solution = subst (λ z. IsSolution z parts visits) c.deref-2.ensures.value c.in_ok-solution.ensures.solved;
    }

-- reports of the search, and then of the solver
pub returns-in_err-solution-clause-shown : goal.returns-in_err-solution-clause-shown
returns-in_err-solution-clause-shown g c =
    shows_more c.args.progress.now c.find_chain.new.progress c.solve.new.progress c.in_ok-chain.ensures.shown
    c.in_err-solution.ensures.shown

pub returns-clause-shown : goal.returns-clause-shown
returns-clause-shown g c =
    shows_more c.args.progress.now c.find_chain.new.progress c.solve.new.progress c.in_ok-chain.ensures.shown
    c.in_ok-solution.ensures.shown
