use Rattle.std.proofs.Common.{take, slice_index_or, false, refl}
use Rattle.ick_chain.specs.declared.chain.Node.TheVariants.{Ends}
use Rattle.ick_chain.proofs.Walks.{lead_on, lead_pass}
use Rattle.ick_chain.proofs.walking.next.Goals as goal

pub returns-then-fork-eq0 : goal.returns-then-fork-eq0
returns-then-fork-eq0 c = λ from h.
    lead_pass c.args.nodes.now from (take c.args.used c.args.choices.now) c.args.at Ends c.in-Some.fork c.if-at-nodes.false
    c.in-Some.ensures c.if-fork-eq0.true h

pub returns-else-used-choices : goal.returns-else-used-choices
returns-else-used-choices c = λ from h.
    lead_on c.args.nodes.now from c.args.choices.now c.args.used c.args.at c.edge-to.result.to Ends c.in-Some.fork
    (slice_index_or c.args.choices.now c.args.used false) c.edge-to.result c.if-at-nodes.false c.if-used-choices.false
    c.in-Some.ensures c.if-fork-eq0.false refl c.edge-to.ensures refl h
