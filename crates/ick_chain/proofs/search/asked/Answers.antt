use Rattle.std.proofs.Common.{◌≡◌, Some, subst}
use Rattle.ick_outcomes.specs.Programs.{ask}
use Rattle.ick_backtrack.specs.Asked.{asked_of}
use Rattle.ick_chain.proofs.search.asked.Goals as goal

pub returns : goal.returns
returns g c =
    let seen = g.P.States.seen c.args.program.now c.args.state.now in
    subst (λ p. asked_of c.asks.result ≡ Some (ask p seen.state)) c.law.ensures c.asks.ensures
