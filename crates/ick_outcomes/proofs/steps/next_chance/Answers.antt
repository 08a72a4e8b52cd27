use Rattle.ick_backtrack.specs.Asked.{finish_of}
use Rattle.ick_outcomes.specs.Seen.{pending_of}
use Rattle.ick_outcomes.proofs.Uses.{over_ended}
use Rattle.ick_outcomes.proofs.steps.next_chance.Goals as goal

pub returns-in-Ended-clause-over : goal.returns-in-Ended-clause-over
returns-in-Ended-clause-over g c =
    over_ended (pending_of (g.P.States.seen c.args.program.now) c.args.node.now) (finish_of c.in-Ended.end)
    c.in-Ended.ensures
