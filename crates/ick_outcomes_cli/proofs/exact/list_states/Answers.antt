use Rattle.std.proofs.Common.{subst}
use Rattle.std.specs.Prelude.{IfOk}
use Rattle.ick_code.specs.Compiled.{code_program}
use Rattle.ick_chain.specs.ExactListings.{IsExactListing}
use Rattle.ick_chain.specs.Reached.{HasMoreStates}
use Rattle.ick_chain.proofs.Progressing.{shows_none}
use Rattle.ick_outcomes.specs.Accounts.{Configuration}
use Rattle.ick_outcomes_cli.proofs.Explaining.{configuration_is}
use Rattle.ick_outcomes_cli.proofs.Reasons.{reason_of, takes_too_much}
use Rattle.ick_outcomes_cli.proofs.exact.list_states.Goals as goal

pub returns-clause-text : goal.returns-clause-text
returns-clause-text g c =
    subst (λ (x : Configuration). IfOk c.exact_listing.result (λ text. IsExactListing x.program x.state
    c.args.question.exact c.args.question.total text.items))
    (configuration_is c.in_ok-runs.runs.lowered.code.now c.args.code.now c.in_ok-runs.runs.input.now c.args.input.now
    c.in_ok-runs.runs.silent c.args.question.ends _ c.in_ok-first.ensures.first c.in_ok-runs.ensures.code
    c.in_ok-runs.ensures.input c.in_ok-runs.ensures.silent)
    c.exact_listing.ensures.text

pub returns-clause-reason : goal.returns-clause-reason
returns-clause-reason g c =
    let runs = c.in_ok-runs.runs in
    let same = configuration_is runs.lowered.code.now c.args.code.now runs.input.now c.args.input.now runs.silent
    c.args.question.ends _ c.in_ok-first.ensures.first c.in_ok-runs.ensures.code c.in_ok-runs.ensures.input
    c.in_ok-runs.ensures.silent in
    reason_of (code_program c.args.code.now) c.args.input.now c.args.question c.exact_listing.result
    (λ steps is. subst (λ (x : Configuration). HasMoreStates x.program x.state c.args.question.most steps) same
    (c.exact_listing.ensures.many steps is))
    (λ is. takes_too_much c.args.code.now c.args.input.now c.args.question _ runs _ c.in_ok-runs.ensures.code
    c.in_ok-runs.ensures.input c.in_ok-runs.ensures.silent same c.memory_or_usual.ensures (c.exact_listing.ensures.much is))

pub returns-in_err-runs-clause-shown : goal.returns-in_err-runs-clause-shown
returns-in_err-runs-clause-shown g c = shows_none c.args.errors.now

pub returns-in_err-tools-clause-shown : goal.returns-in_err-tools-clause-shown
returns-in_err-tools-clause-shown g c = shows_none c.args.errors.now

pub returns-in_err-first-clause-shown : goal.returns-in_err-first-clause-shown
returns-in_err-first-clause-shown g c = shows_none c.args.errors.now
