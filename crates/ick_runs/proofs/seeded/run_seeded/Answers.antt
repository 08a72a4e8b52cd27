use Rattle.std.proofs.Common.{IfOk, subst}
use Rattle.ick_backtrack.specs.Machine.{Machine}
use Rattle.ick_explorer.specs.Runs.{run}
use Rattle.ick_runs.specs.Ordinary.{IsRan}
use Rattle.ick_runs.specs.Draws.{IsDrawn, word_of}
use Rattle.ick_runs.proofs.seeded.run_seeded.Goals as goal

pub returns-clause-choices : goal.returns-clause-choices
returns-clause-choices c =
    let holds : Machine → Type 0 =
    λ m. IfOk c.run_seeded_from.result
    (λ d. IsDrawn m.program m.state c.args.limit (word_of c.args.seed) d.choices.items) in
    subst holds c.in_ok-machine.ensures c.run_seeded_from.ensures.choices

pub returns-clause-ran : goal.returns-clause-ran
returns-clause-ran c =
    let holds : Machine → Type 0 =
    λ m. IfOk c.run_seeded_from.result
    (λ d. IsRan d.choices.items (run m.program m.state c.args.limit d.choices.items) d.ran) in
    subst holds c.in_ok-machine.ensures c.run_seeded_from.ensures.ran
