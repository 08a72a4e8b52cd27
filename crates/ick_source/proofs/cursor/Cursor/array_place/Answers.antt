use Rattle.std.proofs.Common.{refl, sym, ap, ◌∙◌}
use Rattle.ick_syntax.specs.Clamped.{both_faults, clamped_tree, faults_of, faults_in}
use Rattle.ick_syntax.specs.BodyTree.{single, whole, faults_of_name}
use Rattle.ick_source.specs.BodyGrammar.{indices}
use Rattle.ick_source.specs.Expression.{trees_along}
use Rattle.ick_source.proofs.ClampedLemmas.{both-no}
use Rattle.ick_source.proofs.CursorLemmas.{does_decided, does_look, does_then, does_yield}
use Rattle.ick_source.proofs.PartReadings.{whole_array, indexed_array}
use Rattle.ick_source.proofs.cursor.Cursor.array_place.Goals as goal

pub returns-then-is_whole : goal.returns-then-is_whole
returns-then-is_whole c =
    (does_then _ _ _ _ _ _ _ c.named-array.ensures (λ u e. e)
    (λ x f p. does_decided _ _ _ _ _ _ _ (does_look _ _ _ c.sees.ensures) (λ u e. e)
    (whole_array _ _ _ _ _ _ (sym c.is_whole.ensures ∙ c.if-is_whole.true)
    (does_yield _ _ _ (record { is_clamped = ap whole p.is_clamped; is_faults = both-no f ∙ p.is_faults })))))

pub returns : goal.returns
unfolding indices clamped_tree faults_of
returns c =
    (does_then _ _ _ _ _ _ _ c.named-array.ensures c.indexing-subs.ensures.reads.stays
    (λ x f p. does_decided _ _ _ _ _ _ _ (does_look _ _ _ c.sees.ensures) c.indexing-subs.ensures.reads.stays
    (indexed_array _ _ _ _ _ _ (sym c.is_whole.ensures ∙ c.if-is_whole.false)
    (does_then _ _ _ _ _ _ _ c.indexing-subs.ensures.reads (λ u e. e)
    (λ ts j r. does_yield _ _ _ (record {
      is_clamped = rw (p.is_clamped, r.are_clamped) refl;
      is_faults = rw (p.is_faults, r.are_faults) (ap (both_faults (faults_of_name x)) (both-no (faults_in (trees_along ts))));
    }))))))
