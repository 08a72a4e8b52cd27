use Rattle.ick_numbers.specs.Values.{natural}
use Rattle.ick_outcomes.proofs.LineLaws.{total_more}
use Rattle.ick_outcomes.proofs.lines.total.Goals as goal

pub outcomes-preserved : goal.outcomes-preserved
outcomes-preserved c =
    total_more c.args.outcomes.now c.outcomes.outcome-index c.outcome-item.result (natural c.outcomes.sum)
    (natural c.in_ok-sum.sum) c.outcomes-test.true c.outcome-item.is c.outcomes.invariant c.in_ok-sum.ensures
