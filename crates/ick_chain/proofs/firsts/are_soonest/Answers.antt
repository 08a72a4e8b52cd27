use Rattle.ick_chain.proofs.FirstLaws.{first_done}
use Rattle.ick_chain.proofs.firsts.are_soonest.Goals as goal

pub returns-then-is_over : goal.returns-then-is_over
returns-then-is_over c = λ _.
    first_done c.args.nodes.now c.args.lasts.now c.args.least c.args.choices.now c.steps.used c.steps.at
    c.steps.invariant (c.is_over.ensures.ended c.if-is_over.true) (c.is_over.ensures.used c.if-is_over.true)

pub returns : goal.returns
returns c = λ yes.
    first_done c.args.nodes.now c.args.lasts.now c.args.least c.args.choices.now c.steps.used c.steps.at
    c.steps.invariant (c.is_over-2.ensures.ended yes) (c.is_over-2.ensures.used yes)
