use Rattle.std.proofs.Common.{◌≡◌, drop}
use Rattle.clap.specs.Words.{App}
use Rattle.ick_job.specs.Built.{Reads}
use Rattle.ick_job.specs.Descriptions.{program_app, with_commands}
use Rattle.ick_job.proofs.words.description.program_of.Given as goal

abbrev pub invariant-loop-description : goal.invariant-loop-description
invariant-loop-description l =
    (a : App) × Reads l.command a
    × (with_commands a (drop l.description-index l.commands) ≡ program_app l.program l.commands)
