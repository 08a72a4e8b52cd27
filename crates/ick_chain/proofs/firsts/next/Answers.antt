use Rattle.std.proofs.Common.{slice_index_or, false, refl}
use Rattle.std.proofs.Common.{take}
use Rattle.ick_chain.specs.declared.chain.Node.TheVariants.{Ends}
use Rattle.ick_chain.proofs.FirstLaws.{first_choose, first_pass}
use Rattle.ick_chain.proofs.firsts.next.Goals as goal

pub returns-then-fork-eq0 : goal.returns-then-fork-eq0
returns-then-fork-eq0 c =
    first_pass c.args.nodes.now c.args.lasts.now c.args.least (take c.args.used c.args.choices.now) c.args.at Ends
    c.in-Some.fork c.if-at-nodes.false c.in-Some.ensures.some c.if-fork-eq0.true

pub returns-in-Some-first_node : goal.returns-in-Some-first_node
returns-in-Some-first_node c =
    first_choose c.args.nodes.now c.args.lasts.now c.args.least c.args.choices.now c.args.used c.args.at
    c.in-Some-first_node.to Ends c.in-Some.fork (slice_index_or c.args.choices.now c.args.used false)
    c.if-at-nodes.false c.in-Some.ensures.some c.if-fork-eq0.false c.if-used-choices.false refl
    c.in-Some-first_node.ensures.to c.in-Some-first_node.ensures.first
