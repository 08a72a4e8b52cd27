use Rattle.std.proofs.Common.{refl, ap}
use Rattle.ick_syntax.specs.Clamped.{both_faults, clamped_tree, faults_of}
use Rattle.ick_syntax.specs.BodyTree.{faults_of_name}
use Rattle.ick_source.specs.BodyGrammar.{scalar_bodies}
use Rattle.ick_source.proofs.ClampedLemmas.{both-no}
use Rattle.ick_source.proofs.CursorLemmas.{does_then, does_yield}
use Rattle.ick_source.proofs.cursor.Cursor.scalar_body.Goals as goal

pub returns : goal.returns
unfolding scalar_bodies clamped_tree faults_of
returns c =
    does_then _ _ _ _ _ _ _ c.named-name.ensures c.assigned-value.ensures.stays
    (λ x f p. does_then _ _ _ _ _ _ _ c.assigned-value.ensures (λ u e. e)
    (λ v j r. does_yield _ _ _ (record {
      is_clamped = rw (p.is_clamped, r.is_clamped) refl;
      is_faults = rw (p.is_faults, r.is_faults) (ap (both_faults (faults_of_name x)) (both-no (faults_of v)));
    })))
