use Rattle.std.proofs.Common.{◌∙◌, ap, ap₂, sym, Option}
use Rattle.std.specs.Prelude.{option_map}
use Rattle.clap.specs.Words.{Text}
use Rattle.ick_job.proofs.Builders.{of_command, of_program}
use Rattle.ick_cli.specs.Job.{Asked, Task, asked_in}
use Rattle.ick_cli.proofs.words.job.job_by.Goals as goal

pub returns-in-Some : goal.returns-in-Some
returns-in-Some c = λ rows found given.
    let named = of_command _ rows found c.in-Some.name.now (ap (option_map (λ s. s.now)) c.in-Some.is) given in
    let both : Task → Option Text → Asked = λ (t : Task) (f : Option Text). record { task = t; file = f } in
    ap₂ both (c.subcommand_named.ensures named.0 named.2) named.2.file ∙ sym (ap asked_in named.1)

pub returns-in-None : goal.returns-in-None
returns-in-None c = λ rows found given. sym (ap asked_in (of_program _ rows found c.in-None.is given).0)
