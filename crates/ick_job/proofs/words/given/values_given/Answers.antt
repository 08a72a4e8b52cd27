use Rattle.std.proofs.Common.{◌≡◌, []}
use Rattle.clap.specs.Kinds.{HasKind, Kinds}
use Rattle.ick_job.proofs.Builders.{faulted, given_by, matched}
use Rattle.ick_job.proofs.words.given.values_given.Goals as goal

pub returns-in-Ok-clause-given : goal.returns-in-Ok-clause-given
returns-in-Ok-clause-given c = λ free.
    let found = matched _ _ _ c.in-Ok.matches c.in_ok-command.ensures free c.in-Ok.ensures.matches in
    given_by _ _ _ _ _ found.0 found.1 c.values_in.ensures

pub returns-in-Ok-clause-law : goal.returns-in-Ok-clause-law
returns-in-Ok-clause-law c = λ free.
    faulted (λ (k : Kinds). k ≡ []) _ _ _ c.in_ok-command.ensures free c.in-Ok.ensures.kinds

pub returns-in-Err-clause-law : goal.returns-in-Err-clause-law
returns-in-Err-clause-law c = λ free.
    faulted (λ (k : Kinds). HasKind k c.in-Err.error) _ _ _ c.in_ok-command.ensures free c.in-Err.ensures.kinds
