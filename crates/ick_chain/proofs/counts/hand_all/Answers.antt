use Rattle.std.proofs.Common.{◌∙◌}
use Rattle.ick_numbers.specs.Values.{naturals}
use Rattle.ick_chain.specs.Chains.{dot}
use Rattle.ick_chain.specs.declared.chain.Node.TheVariants.{Ends}
use Rattle.ick_chain.proofs.Handing.{handed_more}
use Rattle.ick_chain.proofs.counts.hand_all.Goals as goal

pub nodes-preserved : goal.nodes-preserved
nodes-preserved c = record {
  same = c.in_ok-hand.ensures.same ∙ c.nodes.invariant.same;
  handed = λ u. handed_more u c.args.nodes.now c.args.counts.now c.nodes.at Ends c.index-counts-at.result
      (dot u (naturals c.args.into.now.items)) (dot u (naturals c.nodes.into.items))
      (dot u (naturals c.hand.new.into.items)) c.nodes-test.true c.requires c.index-counts-at.is
      (c.nodes.invariant.handed u) (c.in_ok-hand.ensures.handed c.if-not-branch.false u);
}
