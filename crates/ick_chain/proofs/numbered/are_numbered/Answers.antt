use Rattle.std.proofs.Common.{◌≡◌, ◌+◌, slice_index_or, arith, sym, subst}
use Prim.Native.Nat.{suc}
use Rattle.ick_chain.specs.Numbered.{AreNumbered, first, next}
use Rattle.ick_chain.specs.declared.chain.Node.TheVariants.{Ends}
use Rattle.ick_chain.proofs.RowLaws.{got_at}
use Rattle.ick_chain.proofs.numbered.are_numbered.Goals as goal

pub nodes-init : goal.nodes-init
nodes-init c = record { numbered = first; within = omega arith }

pub nodes-preserved : goal.nodes-preserved
nodes-preserved c =
    let nodes = c.args.nodes.now in
    let at = c.nodes.at in
    let n = slice_index_or nodes at Ends in
    let lt = c.nodes-test.true in
    let below = c.if-at-count.false in
    let more = next at c.nodes.count n c.nodes.invariant.numbered (omega (arith, below))
    (got_at nodes at Ends lt) c.in-Some.ensures.0 in
    let one : suc at ≡ at + 1 = omega arith in
    record {
      numbered = subst (λ z. AreNumbered nodes z c.in-Some.more) one
          (subst (AreNumbered nodes (suc at)) (sym c.in-Some.ensures.1) more);
      within = omega (arith, lt);
    }
