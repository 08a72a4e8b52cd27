use Rattle.ick_numbers.specs.Values.{natural}
use Rattle.ick_outcomes.proofs.LineLaws.{total_end, total_more}
use Rattle.ick_outcomes_cli.proofs.exact.count_all.Goals as goal

pub outcomes-preserved : goal.outcomes-preserved
outcomes-preserved c =
    total_more c.args.outcomes.now c.outcomes.outcome-index c.outcome-item.result (natural c.outcomes.sum)
    (natural c.in_ok-sum.sum) c.outcomes-test.true c.outcome-item.is c.outcomes.invariant c.in_ok-sum.ensures

pub returns : goal.returns
returns c =
    total_end c.args.outcomes.now c.outcomes.outcome-index (natural c.outcomes.sum) c.outcomes-test.false
    c.outcomes.invariant
