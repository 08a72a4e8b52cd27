use Rattle.ick_outcomes.proofs.AskerLaws.{plain_at_limit}
use Rattle.ick_outcomes.proofs.following.plain_within.Goals as goal

pub returns-then-left-eq0 : goal.returns-then-left-eq0
returns-then-left-eq0 c = λ p s is. plain_at_limit p s c.args.left c.if-left-eq0.true is
