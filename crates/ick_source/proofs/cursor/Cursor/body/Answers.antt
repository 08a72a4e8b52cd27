use Rattle.std.proofs.Common.{sym, ◌∙◌}
use Rattle.ick_source.specs.BodyGrammar.{bodies}
use Rattle.ick_source.proofs.BodyReadings.{other_body}
use Rattle.ick_source.proofs.CursorLemmas.{does_by, does_decided, does_look, does_never, does_next, does_some}
use Rattle.ick_source.proofs.cursor.Cursor.body.Goals as goal

pub returns-in-Spot : goal.returns-in-Spot
unfolding bodies
returns-in-Spot c =
    let sign = c.sign.ensures in
    let body = c.scalar_body.ensures in
    does_by _ _ _ _ _ _ _ _ (does_next _ _ c.lead.ensures.next) c.in-Spot.is (λ u e. body.stays u (sign.stays u e))
    (does_decided _ _ _ _ _ _ _ sign body.stays body)

pub returns-in-Array : goal.returns-in-Array
unfolding bodies
returns-in-Array c =
    let sign = c.sign-in-Array.ensures in
    let body = c.array_body.ensures in
    does_by _ _ _ _ _ _ _ _ (does_next _ _ c.lead.ensures.next) c.in-Array.is (λ u e. body.stays u (sign.stays u e))
    (does_decided _ _ _ _ _ _ _ sign body.stays body)

pub returns-then-sees : goal.returns-then-sees
unfolding bodies
returns-then-sees c =
    let body = c.call.ensures in
    does_decided _ _ _ _ _ _ _ (does_next _ _ c.lead.ensures.next) body.stays
    (other_body _ _ _ _ c.in_default.not-Spot c.in_default.not-Array
    (does_by _ _ _ _ _ _ _ _ (does_look _ _ _ c.sees.ensures) c.if-sees.true body.stays body))

pub returns-in-Some : goal.returns-in-Some
unfolding bodies
returns-in-Some c =
    let verb = c.verb.ensures in
    let body = c.action.ensures in
    does_decided _ _ _ _ _ _ _ (does_next _ _ c.lead.ensures.next) (λ u e. body.stays u (verb.stays u e))
    (other_body _ _ _ _ c.in_default.not-Spot c.in_default.not-Array
    (does_by _ _ _ _ _ _ _ _ (does_look _ _ _ c.sees.ensures) c.if-sees.false (λ u e. body.stays u (verb.stays u e))
    (does_some _ _ _ _ _ _ _ _ verb c.in-Some.is body.stays body)))

pub returns-in-None : goal.returns-in-None
unfolding bodies
returns-in-None c =
    let verb = c.verb.ensures in
    does_decided _ _ _ _ _ _ _ (does_next _ _ c.lead.ensures.next) verb.stays
    (other_body _ _ _ _ c.in_default.not-Spot c.in_default.not-Array
    (does_by _ _ _ _ _ _ _ _ (does_look _ _ _ c.sees.ensures) c.if-sees.false verb.stays
    (does_never _ _ _ _ _ _ verb (λ v f p. let e = sym c.in-None.is ∙ p.same in absurd cc))))
