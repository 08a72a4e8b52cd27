use Rattle.std.proofs.Common.{◌≡◌, drop}
use Rattle.clap.specs.Words.{App}
use Rattle.ick_job.specs.Built.{Reads}
use Rattle.ick_job.specs.Descriptions.{described, with_arguments}
use Rattle.ick_job.proofs.words.description.command_of.Given as goal

abbrev pub invariant-loop-argument : goal.invariant-loop-argument
invariant-loop-argument l =
    (a : App) × Reads l.command a
    × (with_arguments a (drop l.argument-index l.description.arguments.now) ≡ described l.description)
