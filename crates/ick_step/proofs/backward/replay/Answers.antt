use Rattle.std.proofs.Common.{None}
use Rattle.ick_step.specs.Seen.{start_of}
use Rattle.ick_step.proofs.MarkLaws.{answered_at}
use Rattle.ick_step.proofs.backward.replay.Goals as goal

pub make_step-requires-clause-answered : goal.make_step-requires-clause-answered
make_step-requires-clause-answered g c =
    let i = c.again.invariant in
    let first = g.M.Backtrack.seen c.args.machine.now in
    answered_at (g.M.Backtrack.seen c.again.machine) first.program (start_of first) c.args.answers.now c.again.steps
    None i.kept i.program i.start c.requires.history c.again-test.true
