use Rattle.ick_places.proofs.HeadLemmas.{negation_none, negation_some}
use Rattle.ick_places.proofs.SpanLemmas.{between-is, plain-is}
use Rattle.ick_places.proofs.head.negation_of.Goals as goal

pub returns-then-not-found-clause-place : goal.returns-then-not-found-clause-place
returns-then-not-found-clause-place c =
    negation_none c.negated_at-found.ensures.negated (plain-is _ c.if-not-found.true)

pub returns-clause-place : goal.returns-clause-place
returns-clause-place c =
    negation_some _ c.negated_at-found.ensures.negated (between-is _ c.if-not-found.false) c.after_white.ensures.gap
