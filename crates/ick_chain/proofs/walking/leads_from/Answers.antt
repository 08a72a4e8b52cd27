use Rattle.std.proofs.Common.{length}
use Rattle.std.proofs.lemmas.Bool.{eqb-true}
use Rattle.ick_chain.proofs.Walks.{lead_done}
use Rattle.ick_chain.proofs.walking.leads_from.Goals as goal

pub returns-then-used-choices : goal.returns-then-used-choices
returns-then-used-choices c = λ _.
    lead_done c.args.nodes.now c.args.from c.args.choices.now c.steps.used c.steps.at c.args.to c.steps.invariant
    c.if-at-to.true c.if-used-choices.true

pub returns-then-at-to-2 : goal.returns-then-at-to-2
returns-then-at-to-2 c = λ yes.
    lead_done c.args.nodes.now c.args.from c.args.choices.now c.steps.used c.steps.at c.args.to c.steps.invariant
    c.if-at-to-2.true (eqb-true c.steps.used (length c.args.choices.now) yes)
