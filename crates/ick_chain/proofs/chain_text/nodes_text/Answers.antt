use Prim.Native.Nat.{suc}
use Rattle.std.proofs.Common.{◌≡◌, ◌+◌, ◌<◌, Some, length, ap, sym, ◌∙◌, subst, arith}
use Rattle.ick_numbers.specs.Values.{natural, naturals}
use Rattle.ick_chain.specs.Places.{states_in}
use Rattle.ick_chain.specs.StatesTexts.{AreNodeTexts, no_node, one_more}
use Rattle.ick_chain.proofs.ChainTexts.{got_natural}
use Rattle.ick_chain.proofs.Placing.{got_in}
use Rattle.ick_chain.proofs.RowLaws.{got_at}
use Rattle.ick_chain.proofs.chain_text.nodes_text.Goals as goal

pub nodes-init : goal.nodes-init
nodes-init g c =
    let answer = c.args.answer.now in
    subst (AreNodeTexts (g.P.States.text c.args.program.now) c.args.exact (natural answer.parts)
    (states_in (g.P.States.seen c.args.program.now) answer.chain.states.items) answer.chain.nodes.items
    (naturals answer.visits.items) 0) (sym c.new-text.ensures.items) no_node

pub nodes-preserved : goal.nodes-preserved
nodes-preserved g c =
    let p = g.P.States.text c.args.program.now in
    let seen = g.P.States.seen c.args.program.now in
    let answer = c.args.answer.now in
    let ss = states_in seen answer.chain.states.items in
    let nodes = answer.chain.nodes.items in
    let visits = naturals answer.visits.items in
    let parts = natural answer.parts in
    let at = c.nodes.at in
    let x = c.index.result.now in
    let n = c.index-in-nodes.result.now in
    let v = c.index-in-nodes-2.result.now in
    let test = c.nodes-test.true in
    let long = c.len-at-end.ensures in
    let lt : at < length nodes = omega (arith, test, long) in
    let known = c.if-at-len.false in
    let weighed = c.if-at-len-2.false in
    let h = c.in_ok-append_node.ensures in
    let more = one_more at c.nodes.text.items h.line (seen x).state n (natural v) c.nodes.invariant
    (got_in seen answer.chain.states.items at x (omega (arith, known)) c.index.ensures)
    (got_at nodes at n lt ∙ ap Some (sym c.index-in-nodes.ensures))
    (got_natural answer.visits.items at v (omega (arith, weighed)) c.index-in-nodes-2.ensures) h.is_line in
    let one : suc at ≡ at + 1 = omega arith in
    subst (λ k. AreNodeTexts p c.args.exact parts ss nodes visits k c.append_node.new.out.items) one
    (subst (AreNodeTexts p c.args.exact parts ss nodes visits (suc at)) (sym h.same) more)
