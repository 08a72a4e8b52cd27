use Rattle.ick_outcomes_cli.proofs.Short.{limit_here, no_limit}
use Rattle.ick_outcomes_cli.proofs.exact.has_limit.Goals as goal

pub returns-clause-no : goal.returns-clause-no
returns-clause-no c = λ none. no_limit c.args.outcomes.now c.loop-at.at c.loop-at-test.false c.loop-at.invariant

pub returns-then-is_limit-clause-yes : goal.returns-then-is_limit-clause-yes
returns-then-is_limit-clause-yes c = λ yes.
    limit_here c.args.outcomes.now c.loop-at.at c.index-outcomes-at.result c.loop-at-test.true
    c.index-outcomes-at.is (c.is_limit.ensures.yes c.if-is_limit.true)
