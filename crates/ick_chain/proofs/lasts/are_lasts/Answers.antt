use Rattle.ick_chain.specs.declared.chain.Node.TheVariants.{Ends}
use Rattle.ick_chain.proofs.FirstLaws.{lasts_all, lasts_more}
use Rattle.ick_chain.proofs.lasts.are_lasts.Goals as goal

pub nodes-preserved : goal.nodes-preserved
nodes-preserved c =
    lasts_more c.args.nodes.now c.args.lasts.now c.nodes.at Ends c.nodes-test.true
    (λ f. c.is_last_of.ensures f c.if-not-is_last_of.false) c.nodes.invariant

pub returns : goal.returns
returns c = λ _. lasts_all c.args.nodes.now c.args.lasts.now c.nodes.at c.nodes-test.false c.nodes.invariant
