use Rattle.ick_cli.proofs.Listed.{answers_unplaced, leaves_unplaced, unplaced_comes}
use Rattle.ick_cli.proofs.commands.runs.list_runs.Goals as goal

pub refused-requires : goal.refused-requires
refused-requires g c =
    unplaced_comes (g.M.Backtrack.seen c.args.machine) c.args.limit _ c.in-Err.error c.in-Err.ensures.err

pub returns-in-Err-clause-leaves : goal.returns-in-Err-clause-leaves
returns-in-Err-clause-leaves g c =
    leaves_unplaced (g.M.Backtrack.seen c.args.machine) c.args.limit _ c.in-Err.error _ _ c.refused.ensures
    c.in-Err.ensures.err

pub returns-in-Err-clause-answer : goal.returns-in-Err-clause-answer
returns-in-Err-clause-answer g c = λ told answer is.
    answers_unplaced (g.M.Backtrack.seen c.args.machine) c.args.limit c.args.count _ c.in-Err.error _ _ answer
    c.refused.ensures c.in-Err.ensures.err is
