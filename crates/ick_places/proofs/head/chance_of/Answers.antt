use Rattle.ick_places.proofs.HeadLemmas.{chance_none, chance_some}
use Rattle.ick_places.proofs.head.chance_of.Goals as goal

pub returns-in_default-clause-place : goal.returns-in_default-clause-place
returns-in_default-clause-place c = chance_none c.chance_at-found.ensures.chance c.in_default.is

pub returns-clause-place : goal.returns-clause-place
returns-clause-place c =
    chance_some _ _ c.chance_at-found.ensures.chance c.in-Some.is c.after_white.ensures.gap
