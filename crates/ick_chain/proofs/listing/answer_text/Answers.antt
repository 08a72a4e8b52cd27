use Rattle.std.proofs.Common.{ℕ, sym, subst}
use Rattle.ick_numbers.specs.Values.{natural, naturals}
use Rattle.ick_chain.specs.Chains.{IsExact, all_steps, passing}
use Rattle.ick_chain.specs.Limits.{Test}
use Rattle.ick_chain.specs.Lines.{lines_of}
use Rattle.ick_chain.specs.Places.{state_or, states_in}
use Rattle.ick_chain.proofs.LongNumbers.{if_ok, if_some}
use Rattle.ick_chain.proofs.listing.answer_text.Goals as goal

pub returns : goal.returns
returns g c =
    let p = g.P.States.text c.args.program.now in
    let answer = c.args.answer.now in
    let listed = c.in_ok-rows in
    let ss = states_in (g.P.States.seen c.args.program.now) answer.chain.states.items in
    let nodes = answer.chain.nodes.items in
    let visits = naturals answer.visits.items in
    let parts = natural answer.parts in
    let rest = natural listed.never in
    let steps = all_steps nodes visits in
    let o = listed.ensures in
    let same = rw listed.never-is at o.never in
    let lines = rw (c.deref.ensures.value, c.deref-2.ensures.value, listed.rows-is, listed.shown-is, listed.first-is) at
    c.in_ok-lines.ensures in
    let texts = rw (c.deref-3.ensures.value, c.deref-4.ensures.value, listed.never-is, listed.stuck-is) at
    c.text_of.ensures in
    if_ok _ _ c.text_of.result
    (λ text f s begins whole.
    let weight : Test → ℕ = λ q. passing (λ i. q (state_or s ss i)) nodes visits in
    let exact : IsExact p s parts weight rest steps =
    subst (λ z. IsExact p s parts weight z steps) (sym same) whole in
    let rows = rw listed.rows-is at (o.rows s) in
    let shown = rw (listed.rows-is, listed.shown-is) at (o.shown s begins) in
    let first = rw (listed.rows-is, listed.first-is) at (o.first s begins) in
    let stuck = if_some _ _ listed.stuck (λ choices h. h s begins) (rw listed.stuck-is at o.stuck) in
    record {
      parts = parts;
      never = rest;
      lines = lines_of c.in_ok-lines.lines.items;
      are_lines = lines s parts rest steps weight begins exact rows shown first;
      text_is = f p ss s c.is_silent.ensures c.requires.full begins stuck;
    }) texts
