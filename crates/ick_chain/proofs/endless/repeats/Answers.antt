use Rattle.std.proofs.Common.{◌≡◌, ◌∙◌, sym, ap, subst}
use Rattle.ick_code.specs.meaning.State.{State}
use Rattle.ick_outcomes.specs.Programs.{ask}
use Rattle.std.proofs.Common.{Some}
use Rattle.ick_backtrack.specs.Asked.{finish_of, asked_at_end}
use Rattle.ick_chain.specs.ExactListings.{HasEndlessRuns}
use Rattle.ick_chain.specs.Places.{state_or, states_in}
use Rattle.ick_chain.specs.Rows.{row_of}
use Rattle.ick_chain.proofs.EndlessLaws.{goes_endless}
use Rattle.ick_chain.proofs.LongNumbers.{if_ok}
use Rattle.ick_chain.proofs.Placing.{chain_of, first_is, got_in, or_got}
use Rattle.ick_chain.proofs.endless.repeats.Goals as goal

pub returns-in-Ended : goal.returns-in-Ended
returns-in-Ended g c =
    let p = g.P.States.text c.args.program.now in
    let seen = g.P.States.seen c.args.program.now in
    let ss = states_in seen c.args.states.now in
    let nodes = c.args.nodes.now in
    let round = c.args.round.now in
    let end = c.args.end in
    let x = c.index-states-end.result in
    let y = c.index-states-end-in-Ended.result in
    let gx = got_in seen c.args.states.now end x c.if-end-states.false c.index-states-end.is in
    let gy = got_in seen c.args.states.now end y c.if-end-states.false c.index-states-end-in-Ended.is in
    if_ok _ _ c.is_outcome.result
    (λ yes f h s begins.
    let o = f h in
    subst (λ z. HasEndlessRuns p z (row_of c.args.row.now)) (first_is ss s s begins)
    (goes_endless p (state_or s ss) nodes round.at round.before.items round.around.items round.behind.items end
    (finish_of c.in-Ended.word) (row_of c.args.row.now) (chain_of p ss nodes s c.requires.full)
    (c.goes_round.ensures c.if-not-goes_round.false)
    (subst (λ z. asked_at_end (finish_of c.in-Ended.word) ≡ Some (ask p z)) (sym (or_got ss end s (seen x).state gx))
    c.in-Ended.ensures)
    (o.0 ∙ ap (λ (z : State). z.output) (sym (or_got ss end s (seen y).state gy))) o.1)) c.is_outcome.ensures
