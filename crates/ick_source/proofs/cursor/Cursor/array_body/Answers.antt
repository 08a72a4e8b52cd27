use Rattle.std.proofs.Common.{refl, sym, ap, ◌∙◌}
use Rattle.ick_syntax.specs.BodyTree.{faults_of_name, faults_along}
use Rattle.ick_syntax.specs.Clamped.{both_faults, clamped_tree, faults_of, faults_in}
use Rattle.ick_source.specs.BodyGrammar.{array_bodies, indices}
use Rattle.ick_source.specs.Expression.{trees_along}
use Rattle.ick_source.proofs.ClampedLemmas.{both_assoc, both-no}
use Rattle.ick_source.proofs.CursorLemmas.{does_by, does_decided, does_look, does_then, does_yield}
use Rattle.ick_source.proofs.GrammarShorter.{wholes-shorten}
use Rattle.ick_source.proofs.cursor.Cursor.array_body.Goals as goal

pub list-requires : goal.list-requires
list-requires c = wholes-shorten

pub returns-then-sees : goal.returns-then-sees
unfolding array_bodies indices clamped_tree faults_of
returns-then-sees c =
    let subs = c.indexing-subs.ensures.reads in
    let value = c.assigned-value.ensures in
    does_then _ _ _ _ _ _ _ c.named-array.ensures (λ u e. value.stays u (subs.stays u e))
    (λ x f p. does_by _ _ _ _ _ _ _ _ (does_look _ _ _ c.sees.ensures) c.if-sees.true (λ u e. value.stays u (subs.stays u e))
    (does_then _ _ _ _ _ _ _ subs value.stays
    (λ ts j r. does_then _ _ _ _ _ _ _ value (λ u e. e)
    (λ v k w. does_yield _ _ _ (record {
      is_clamped = rw (p.is_clamped, r.are_clamped, w.is_clamped) refl;
      is_faults =
          rw (p.is_faults, r.are_faults, w.is_faults)
          (ap (λ z. both_faults (faults_of_name x) (both_faults (faults_in (trees_along ts)) z)) (both-no (faults_of v))
          ∙ sym (both_assoc (faults_of_name x) (faults_in (trees_along ts)) (faults_of v)));
    })))))

pub returns : goal.returns
unfolding array_bodies
returns c =
    let list = c.list.ensures in
    let arrow = c.expect.ensures in
    does_then _ _ _ _ _ _ _ c.named-array.ensures (λ u e. list.stays u (arrow.stays u e))
    (λ x f p. does_by _ _ _ _ _ _ _ _ (does_look _ _ _ c.sees.ensures) c.if-sees.false (λ u e. list.stays u (arrow.stays u e))
    (does_decided _ _ _ _ _ _ _ arrow list.stays
    (does_then _ _ _ _ _ _ _ list (λ u e. e)
    (λ es j r. does_yield _ _ _ (record {
      is_clamped = rw (p.is_clamped, r.is_clamped) refl;
      is_faults =
          rw (p.is_faults, r.is_faults) (ap (both_faults (faults_of_name x)) (both-no (faults_along faults_of es)));
    })))))
