use Rattle.std.proofs.Common.{subst}
use Rattle.ick_outcomes.specs.Keys.{Lacks}
use Rattle.ick_chain.proofs.Reaching.{new_by_key}
use Rattle.ick_chain.proofs.search.find_state.Goals as goal

pub returns-in-None-clause-none : goal.returns-in-None-clause-none
returns-in-None-clause-none g c =
    let p = g.P.States.text c.args.program.now in
    let seen = g.P.States.seen c.args.program.now in
    let suits = g.P.States.suits c.args.program.now in
    let key = g.P.States.key c.args.program.now in
    let size = g.P.States.size c.args.program.now in
    new_by_key p seen suits key size c.args.found.now c.args.state.now c.requires.found c.requires.state c.keys.ensures
    (subst (λ k. Lacks c.args.found.now.index.rows k) c.requires.key c.in-None.ensures)
