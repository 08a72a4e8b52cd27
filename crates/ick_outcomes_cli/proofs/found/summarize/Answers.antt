use Rattle.std.proofs.Common.{subst}
use Rattle.std.specs.Prelude.{IfOk}
use Rattle.ick_outcomes.specs.Accounts.{Configuration}
use Rattle.ick_outcomes.specs.Seen.{rows_of}
use Rattle.ick_outcomes.specs.Summaries.{HasMoreRuns, IsSummary}
use Rattle.ick_outcomes_cli.proofs.Explaining.{configuration_is}
use Rattle.ick_outcomes_cli.proofs.found.summarize.Goals as goal

pub returns-clause-summary : goal.returns-clause-summary
returns-clause-summary c =
    subst (λ (x : Configuration). IfOk c.outcomes.result (λ outcomes. IsSummary x.program x.state c.args.limit
    (rows_of outcomes.items)))
    (configuration_is c.in_ok-runs.runs.lowered.code.now c.args.code.now c.in_ok-runs.runs.input.now c.args.input.now
    c.in_ok-runs.runs.silent c.args.question.ends _ c.in_ok-first.ensures.first c.in_ok-runs.ensures.code
    c.in_ok-runs.ensures.input c.in_ok-runs.ensures.silent)
    c.outcomes.ensures.summary

pub returns-clause-more : goal.returns-clause-more
returns-clause-more c = λ refused.
    subst (λ (x : Configuration). HasMoreRuns x.program x.state c.args.limit c.args.question.most)
    (configuration_is c.in_ok-runs.runs.lowered.code.now c.args.code.now c.in_ok-runs.runs.input.now c.args.input.now
    c.in_ok-runs.runs.silent c.args.question.ends _ c.in_ok-first.ensures.first c.in_ok-runs.ensures.code
    c.in_ok-runs.ensures.input c.in_ok-runs.ensures.silent)
    (c.outcomes.ensures.more refused)
