use Rattle.ick_job.proofs.Builders.{next_argument}
use Rattle.ick_job.proofs.words.description.command_of.Goals as goal

pub loop-argument-preserved : goal.loop-argument-preserved
loop-argument-preserved c =
    let before = c.loop-argument.invariant in
    next_argument _ _ c.built.result before.0 _ _ c.loop-argument.argument-index _ c.loop-argument-test.true before.1
    before.2 c.built.ensures.rule c.built.ensures.local c.in_ok-command.ensures
