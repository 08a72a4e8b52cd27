use Rattle.std.proofs.Common.{sym, ◌∙◌}
use Rattle.ick_places.proofs.HeadLemmas.{negation_leads, chance_leads}
use Rattle.ick_places.proofs.head.qualifiers_of.Goals as goal

pub returns-then-is_some-clause-places : goal.returns-then-is_some-clause-places
returns-then-is_some-clause-places c =
    negation_leads (sym c.is_some.ensures ∙ c.if-is_some.true) c.negation_of-before.ensures.place
    c.chance_of-chance.ensures.place

pub returns-else-is_some-clause-places : goal.returns-else-is_some-clause-places
returns-else-is_some-clause-places c =
    chance_leads (sym c.is_some.ensures ∙ c.if-is_some.false) c.negation_of-before.ensures.place
    c.chance_of-chance.ensures.place c.negation_of-after.ensures.place
