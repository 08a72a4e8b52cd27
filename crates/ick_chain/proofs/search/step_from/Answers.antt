use Rattle.std.proofs.Common.{refl, subst, sym, IfOk}
use Rattle.ick_outcomes.specs.Programs.{ask, advance, IsPlain, RunsOn}
use Rattle.ick_backtrack.specs.Asked.{IsGoing}
use Rattle.ick_chain.proofs.search.step_from.Goals as goal

pub step_from-requires : goal.step_from-requires
step_from-requires g c κs =
    let seen = g.P.States.seen c.args.program.now c.args.state.now in (
      (refl, tt),
      (c.requires.tools, (c.requires.state, subst (λ p. IsGoing (ask p seen.state)) (sym c.law.ensures) c.requires.going)),
    )

pub returns-clause-runs : goal.returns-clause-runs
returns-clause-runs g c =
    let seen = g.P.States.seen c.args.program.now in
    let old = seen c.args.state.now in
    subst (λ p. IfOk c.step_from.result (λ r. RunsOn p (advance p old.state c.args.done) r.1 (seen r.0).state))
    c.law.ensures c.step_from.ensures.runs
