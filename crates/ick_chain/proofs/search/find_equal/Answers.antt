use Rattle.std.proofs.Common.{sym, subst}
use Rattle.ick_chain.proofs.Reaching.{new_all, new_next}
use Rattle.ick_chain.proofs.search.find_equal.Goals as goal

pub states-preserved : goal.states-preserved
states-preserved g c =
    let seen = g.P.States.seen c.args.program.now in
    let suits = g.P.States.suits c.args.program.now in
    let xs = c.args.states.now in
    let x = c.index-states-at.result in
    let lt = c.states-test.true in
    let fits = subst suits (sym c.index-states-at.is) (c.requires.states c.states.at x lt) in
    new_next seen xs c.states.at x (seen c.args.state.now).state lt c.index-states-at.is
    (λ e. let yes = c.if-same.ensures.found fits c.requires.state e in let no = c.if-same.false in cc)
    c.states.invariant

pub returns-clause-none : goal.returns-clause-none
returns-clause-none g c =
    let seen = g.P.States.seen c.args.program.now in
    new_all seen c.args.states.now c.states.at (seen c.args.state.now).state c.states-test.false c.states.invariant
