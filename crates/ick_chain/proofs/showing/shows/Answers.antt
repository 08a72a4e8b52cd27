use Rattle.std.proofs.Common.{◌≡◌, ◌∙◌, ap, subst}
use Rattle.ick_code.specs.meaning.State.{State}
use Rattle.ick_outcomes.specs.Programs.{ask}
use Rattle.ick_backtrack.specs.Asked.{finish_of}
use Rattle.ick_chain.specs.Places.{state_or, states_in}
use Rattle.ick_chain.specs.Shown.{LeadTo}
use Rattle.ick_chain.proofs.LongNumbers.{if_ok}
use Rattle.ick_chain.proofs.Placing.{chain_of, first_is, got_in, got_same, or_got}
use Rattle.ick_chain.proofs.Ranking.{is_end}
use Rattle.ick_chain.proofs.ShownLaws.{is_shown}
use Rattle.ick_chain.proofs.showing.shows.Goals as goal

pub returns-in-Ended-clause-shown : goal.returns-in-Ended-clause-shown
returns-in-Ended-clause-shown g c =
    let p = g.P.States.text c.args.program.now in
    let seen = g.P.States.seen c.args.program.now in
    let ss = states_in seen c.args.states.now in
    let nodes = c.args.nodes.now in
    let choices = c.args.choices.now in
    let x = c.index-states-at.result in
    let y = c.index-states-at-in-Ended.result in
    let gx = got_in seen c.args.states.now c.args.at x c.if-at-states.false c.index-states-at.is in
    let gy = got_in seen c.args.states.now c.args.at y c.if-at-states.false c.index-states-at-in-Ended.is in
    let same : (seen y).state ≡ (seen x).state = got_same ss c.args.at (seen y).state (seen x).state gy gx in
    if_ok _ _ c.is_outcome.result
    (λ yes f h s begins.
    let lead : LeadTo p s choices (seen x).state =
    subst (λ z. LeadTo p z choices (seen x).state) (first_is ss s s begins)
    (subst (λ z. LeadTo p (state_or s ss 0) choices z) (or_got ss c.args.at s (seen x).state gx)
    (c.leads.ensures c.if-not-leads.false p (state_or s ss) (chain_of p ss nodes s c.requires.full))) in
    let o = f h in
    is_shown p s choices (seen x).state (finish_of c.in-Ended.end) c.args.row.now.output.items c.args.row.now.end.items
    lead c.in-Ended.ensures (o.0 ∙ ap (λ (z : State). z.output) same) o.1) c.is_outcome.ensures

pub returns-in-Ended-clause-ended : goal.returns-in-Ended-clause-ended
returns-in-Ended-clause-ended g c =
    let p = g.P.States.text c.args.program.now in
    let x = c.index-states-at.result in
    if_ok _ _ c.is_outcome.result
    (λ yes f h. is_end (finish_of c.in-Ended.end) (ask p (g.P.States.seen c.args.program.now x).state)
    c.args.row.now.end.items c.in-Ended.ensures (f h).1) c.is_outcome.ensures
