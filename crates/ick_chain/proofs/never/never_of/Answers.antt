use Rattle.ick_numbers.specs.Values.{natural}
use Rattle.ick_chain.specs.declared.chain.Node.TheVariants.{Ends}
use Rattle.ick_chain.proofs.RowLaws.{never_more}
use Rattle.ick_chain.proofs.never.never_of.Goals as goal

pub nodes-preserved : goal.nodes-preserved
nodes-preserved c =
    never_more c.args.nodes.now c.args.visits.now c.nodes.at Ends c.index-visits-at.result (natural c.nodes.sum)
    (natural c.in_ok-sum.sum) c.nodes-test.true c.requires c.index-visits-at.is c.nodes.invariant c.in_ok-sum.ensures
