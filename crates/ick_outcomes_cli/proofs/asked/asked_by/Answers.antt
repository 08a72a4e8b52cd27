use Rattle.std.proofs.Common.{false, ap, ◌∙◌, subst}
use Rattle.std.specs.Prelude.{IfOk}
use Rattle.ick_outcomes.specs.Accounts.{Configuration}
use Rattle.ick_outcomes_cli.specs.Asked.{IsAskedBy}
use Rattle.ick_outcomes_cli.proofs.Explaining.{configuration_is}
use Rattle.ick_outcomes_cli.proofs.asked.asked_by.Goals as goal

pub returns : goal.returns
returns c =
    subst (λ (x : Configuration). IfOk c.lines_asked.result (λ asked. IsAskedBy x.program.statements x.state c.args.limit
    c.args.listing.now asked))
    (configuration_is c.in_ok-runs.runs.lowered.code.now c.args.code.now c.in_ok-runs.runs.input.now c.args.input.now
    c.in_ok-runs.runs.silent false _ c.in_ok-first.ensures.first c.in_ok-runs.ensures.code
    c.in_ok-runs.ensures.input c.in_ok-runs.ensures.silent)
    c.lines_asked.ensures
