use Rattle.std.proofs.Common.{◌-◌, refl, subst, ap, ◌∙◌, ◌++◌, ◌∷◌, []}
use Rattle.ick_outcomes.specs.Fractions.{top_of, IsPart}
use Rattle.ick_outcomes.specs.Packed.{choices_of}
use Rattle.ick_numbers.specs.Values.{natural}
use Rattle.ick_outcomes.specs.Seen.{pending_of}
use Rattle.ick_outcomes.specs.Weights.{amount}
use Rattle.ick_outcomes.proofs.Uses.{chosen_goes_on, part_of_copy}
use Rattle.ick_outcomes.proofs.node.choose_from.Goals as goal

pub returns-clause-goes_on : goal.returns-clause-goes_on
returns-clause-goes_on g c =
    let seen = g.P.States.seen c.args.program.now in
    let node = c.args.node.now in
    let copy = c.in_ok-copy in
    let r = c.in_ok-weight.weight in
    let left = node.left - 1 - c.in_ok-state.made in
    let step = c.in_ok-state.ensures in
    chosen_goes_on (pending_of seen node)
    (record {
      at = seen c.in_ok-state.state;
      left = left;
      count = natural c.in_ok-copy-2.field-0;
      weight = amount (top_of r) r.places left;
      choices = choices_of c.push.new.self;
    })
    c.args.chance c.in_ok-state.made c.args.done node.weight r c.requires.left node.fits
    (part_of_copy _ node.weight copy.copy r copy.ensures.top copy.ensures.places
    (subst (λ k. IsPart k copy.copy r) c.hundredths.ensures.is_part c.in_ok-weight.ensures)) refl step.runs step.program
    step.within refl c.in_ok-copy-2.ensures refl
    (c.in_ok-push.ensures ∙ ap (λ z. z ++ c.args.done ∷ []) c.in_ok-choices.ensures)
