use Rattle.std.proofs.Common.{arith}
use Rattle.ick_outcomes.specs.Seen.{pending_of}
use Rattle.ick_outcomes.proofs.Searching.{asking_goes}
use Rattle.ick_outcomes.proofs.Uses.{over_limit}
use Rattle.ick_outcomes.proofs.steps.within_limit.Goals as goal

pub returns-then-node-eq0-clause-over : goal.returns-then-node-eq0-clause-over
returns-then-node-eq0-clause-over g c =
    let seen = g.P.States.seen c.args.program.now in
    let none = c.if-node-eq0.true in
    let state = seen c.args.node.now.state in
    over_limit (pending_of seen c.args.node.now) (asking_goes state.program state.state c.args.chance c.requires)
    (λ lt. omega (arith, lt, none))
