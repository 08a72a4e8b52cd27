use Rattle.std.proofs.Common.{arith}
use Rattle.ick_job.specs.Input.{longest_input}
use Rattle.ick_job.proofs.Texts.{given_some}
use Rattle.ick_step_cli.proofs.Giving.{input_long, input_read}
use Rattle.ick_step_cli.proofs.dispatch.read_input.Goals as goal

pub returns-in-Ok-clause-fits : goal.returns-in-Ok-clause-fits
unfolding longest_input
returns-in-Ok-clause-fits g c = omega (arith, c.len.ensures, c.if-len-le-LONGEST.true)

pub returns-in-Ok-clause-whole : goal.returns-in-Ok-clause-whole
returns-in-Ok-clause-whole g c = λ told.
    input_read _ _ (g.I.Files.named c.args.inputs.now) _ _ _ (given_some _ _ _ c.in-Some.is) c.in-Ok.ensures.count
    (c.in-Ok.ensures.front told) (omega (arith, c.len.ensures, c.if-len-le-LONGEST.true))

pub returns-in-Ok-2-clause-unread : goal.returns-in-Ok-2-clause-unread
returns-in-Ok-2-clause-unread g c = λ told.
    input_long _ _ (g.I.Files.named c.args.inputs.now) _ (given_some _ _ _ c.in-Some.is)
    (c.in-Ok.ensures.front told) (omega (arith, c.len.ensures, c.if-len-le-LONGEST.false))
