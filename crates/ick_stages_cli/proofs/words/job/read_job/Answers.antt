use Rattle.std.proofs.Common.{◌≡◌, [], true, refl}
use Rattle.clap.specs.Walk.{texts}
use Rattle.clap.specs.Words.{built, is_simple_and_free}
use Rattle.clap.proofs.OnLiterals.{clap_on_literals}
use Rattle.ick_job.proofs.Builders.{own_values}
use Rattle.ick_stages_cli.specs.Words.{stages_app}
use Rattle.ick_stages_cli.proofs.words.job.read_job.Goals as goal

free : is_simple_and_free stages_app ≡ true
unfolding clap_on_literals
free = refl

no_commands : (built stages_app).subs ≡ []
unfolding clap_on_literals
no_commands = refl

pub returns-in-Ok-clause-job : goal.returns-in-Ok-clause-job
returns-in-Ok-clause-job c =
    c.job_by.ensures _ (own_values stages_app (texts c.args.words.now) c.in-Ok.values no_commands (c.in-Ok.ensures.given free))

pub returns-in-Ok-clause-law : goal.returns-in-Ok-clause-law
returns-in-Ok-clause-law c = c.in-Ok.ensures.law free

pub returns-in-Err-clause-law : goal.returns-in-Err-clause-law
returns-in-Err-clause-law c = c.in-Err.ensures.law free
