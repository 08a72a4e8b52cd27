use Rattle.std.proofs.Common.{subst}
use Rattle.ick_numbers.specs.Values.{natural}
use Rattle.ick_chain.specs.Means.{IsFirst}
use Rattle.ick_chain.proofs.MeanSteps.{mean_of}
use Rattle.ick_chain.proofs.mean.mean_steps.Goals as goal

pub returns : goal.returns
returns c = λ p states s full begins.
    let means = c.in_ok-means.means.numbers.items in
    let steps = natural c.in_ok-steps.steps in
    mean_of p states s c.args.nodes.now (natural c.in_ok-means.means.parts) steps means full begins
    c.in_ok-means.ensures (c.is_some.ensures c.if-not-is_some.false)
    (subst (λ z. IsFirst z steps) c.deref.ensures.value c.in_ok-steps.ensures)
