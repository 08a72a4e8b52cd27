use Rattle.ick_chain.proofs.LineTexts.{runs_more, runs_none}
use Rattle.ick_chain.proofs.total.count_all.Goals as goal

pub returns-in-None : goal.returns-in-None
returns-in-None c =
    runs_none c.args.lines.now c.lines.line-index c.line-item.result c.lines-test.true c.line-item.is c.in-None.is

pub lines-preserved : goal.lines-preserved
lines-preserved c =
    runs_more c.args.lines.now c.lines.line-index c.line-item.result c.in-Some.count c.lines.sum c.in_ok-sum-in-Some.sum
    c.lines-test.true c.line-item.is c.in-Some.is c.lines.invariant c.in_ok-sum-in-Some.ensures
