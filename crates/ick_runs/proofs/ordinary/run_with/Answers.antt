use Rattle.std.proofs.Common.{IfOk, subst}
use Rattle.ick_backtrack.specs.Machine.{Machine}
use Rattle.ick_explorer.specs.Runs.{run}
use Rattle.ick_runs.specs.Ordinary.{IsRan, IgnoresUnused}
use Rattle.ick_runs.proofs.ordinary.run_with.Goals as goal

pub returns-clause-run : goal.returns-clause-run
returns-clause-run c =
    let choices = c.args.choices.now in
    let holds : Machine → Type 0 =
    λ m. IfOk c.run_from.result (λ r. IsRan choices (run m.program m.state c.args.limit choices) r) in
    subst holds c.in_ok-machine.ensures c.run_from.ensures.run

pub returns-clause-unused : goal.returns-clause-unused
returns-clause-unused c =
    let holds : Machine → Type 0 =
    λ m. IfOk c.run_from.result (λ r. IgnoresUnused m.program m.state c.args.limit c.args.choices.now r) in
    subst holds c.in_ok-machine.ensures c.run_from.ensures.unused
