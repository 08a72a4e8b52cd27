use Rattle.std.proofs.Common.{rules, refl}
use Rattle.ick_job.proofs.Builders.{next_command}
use Rattle.ick_job.proofs.words.description.program_of.Goals as goal

pub loop-description-init : goal.loop-description-init
loop-description-init c = (_, record { app = search rules; local = search rules }, refl)

pub loop-description-preserved : goal.loop-description-preserved
loop-description-preserved c =
    let before = c.loop-description.invariant in
    next_command _ _ _ before.0 _ _ c.loop-description.description-index _ c.loop-description-test.true before.1
    before.2 c.in_ok-command_of-2.ensures c.in_ok-command.ensures
