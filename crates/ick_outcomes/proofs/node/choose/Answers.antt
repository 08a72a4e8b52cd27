use Rattle.std.proofs.Common.{◌-◌, refl, subst}
use Rattle.ick_outcomes.specs.Fractions.{top_of, IsPart}
use Rattle.ick_outcomes.specs.Packed.{choices_of}
use Rattle.ick_numbers.specs.Values.{natural}
use Rattle.ick_outcomes.specs.Seen.{pending_of}
use Rattle.ick_outcomes.specs.Weights.{amount}
use Rattle.ick_outcomes.proofs.Uses.{chosen_goes_on}
use Rattle.ick_outcomes.proofs.node.choose.Goals as goal

pub returns-clause-goes_on : goal.returns-clause-goes_on
returns-clause-goes_on g c =
    let seen = g.P.States.seen c.args.program.now in
    let f = c.args.node.weight in
    let r = c.in_ok-weight.weight in
    let left = c.args.node.left - 1 - c.in_ok-state.made in
    let step = c.in_ok-state.ensures in
    chosen_goes_on (pending_of seen c.args.node)
    (record {
      at = seen c.in_ok-state.state;
      left = left;
      count = natural c.args.node.count;
      weight = amount (top_of r) r.places left;
      choices = choices_of c.push.new.self;
    })
    c.args.chance c.in_ok-state.made c.args.done f r c.requires.left c.args.node.fits
    (subst (λ k. IsPart k f r) c.hundredths.ensures.is_part c.in_ok-weight.ensures) refl step.runs step.program
    step.within refl refl refl c.in_ok-push.ensures
