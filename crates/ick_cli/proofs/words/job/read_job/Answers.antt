use Rattle.std.proofs.Common.{◌≡◌, true, refl}
use Rattle.clap.specs.Words.{is_simple_and_free}
use Rattle.clap.proofs.OnLiterals.{clap_on_literals}
use Rattle.ick_cli.specs.Words.{ick_app}
use Rattle.ick_cli.proofs.words.job.read_job.Goals as goal

free : is_simple_and_free ick_app ≡ true
unfolding clap_on_literals
free = refl

pub returns-in-Ok-clause-job : goal.returns-in-Ok-clause-job
returns-in-Ok-clause-job c = c.job_by.ensures _ _ (c.in-Ok.ensures.given free)

pub returns-in-Ok-clause-law : goal.returns-in-Ok-clause-law
returns-in-Ok-clause-law c = c.in-Ok.ensures.law free

pub returns-in-Err-clause-law : goal.returns-in-Err-clause-law
returns-in-Err-clause-law c = c.in-Err.ensures.law free
