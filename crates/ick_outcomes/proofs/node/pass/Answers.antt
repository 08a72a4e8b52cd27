use Rattle.std.proofs.Common.{◌≡◌, ◌∙◌, ◌-◌, ap, arith, refl, suc}
use Rattle.ick_outcomes.specs.Fractions.{top_of}
use Rattle.ick_numbers.specs.Values.{natural}
use Rattle.ick_outcomes.specs.Seen.{pending_of}
use Rattle.ick_outcomes.specs.Weights.{amount}
use Rattle.ick_outcomes.proofs.Uses.{first_step, goes_on_runs, moved_on}
use Rattle.ick_outcomes.proofs.node.pass.Goals as goal

pub returns-clause-goes_on : goal.returns-clause-goes_on
returns-clause-goes_on g c =
    let seen = g.P.States.seen c.args.program.now in
    let n = pending_of seen c.args.node in
    let f = c.args.node.weight in
    let k = c.in_ok-state.made in
    let step = c.in_ok-state.ensures in
    let some = c.requires.left in
    let few = step.within in
    let same : n.left - 1 - k ≡ n.left - suc k = omega arith in
    goes_on_runs n
    (record {
      at = seen c.in_ok-state.state;
      left = n.left - 1 - k;
      count = natural c.args.node.count;
      weight = amount (top_of f) f.places (n.left - 1 - k);
      choices = n.choices;
    })
    (suc k) (first_step n.at.program n.at.state (seen c.in_ok-state.state).state k c.requires.plain step.runs)
    step.program (omega (arith, some, few)) same refl
    (ap (λ z. amount (top_of f) f.places z) same
    ∙ moved_on f (suc k) n.left c.args.node.fits (omega (arith, some, few))) refl
