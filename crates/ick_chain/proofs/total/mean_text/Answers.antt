use Rattle.ick_numbers.specs.Values.{natural}
use Rattle.ick_chain.proofs.LongNumbers.{if_ok}
use Rattle.ick_chain.proofs.total.mean_text.Goals as goal

pub returns-in_ok-ratio-in-Some : goal.returns-in_ok-ratio-in-Some
returns-in_ok-ratio-in-Some c =
    let mean = c.in-Some.mean in
    let means = rw c.in-Some.is at c.in_ok-mean.ensures in
    if_ok _ _ c.ratio_text.result
    (λ text f p states s full begins. record {
      parts = natural mean.parts;
      steps = natural mean.steps;
      mean = means p states s full begins;
      text_is = f (natural mean.steps) (natural mean.parts) c.in_ok-ratio-in-Some.ensures;
    }) c.ratio_text.ensures
