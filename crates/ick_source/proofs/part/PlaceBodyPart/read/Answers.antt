use Rattle.std.proofs.Common.{ap, refl, ◌∙◌}
use Rattle.ick_syntax.specs.BodyTree.{single}
use Rattle.ick_syntax.specs.Clamped.{clamped_tree, faults_of}
use Rattle.ick_syntax.specs.Tree.{scalar}
use Rattle.ick_source.specs.BodyGrammar.{place_by, places}
use Rattle.ick_source.specs.Position.{left_at}
use Rattle.ick_source.proofs.ClampedLemmas.{both-no}
use Rattle.ick_source.proofs.CursorLemmas.{does_by, does_stopped, does_then, does_yield}
use Rattle.ick_source.proofs.PartReadings.{other_place}
use Rattle.ick_source.proofs.part.PlaceBodyPart.read.Goals as goal

pub returns-in-Spot : goal.returns-in-Spot
unfolding places clamped_tree faults_of
returns-in-Spot c =
    does_by _ _ _ _ _ _ _ _ c.sign.ensures c.in-Spot.is c.named.ensures.stays
    (does_then _ _ _ _ _ _ _ c.named.ensures (λ u e. e)
    (λ x f p. does_yield _ _ _ (record {
      is_clamped = ap (λ v. single (scalar v)) p.is_clamped;
      is_faults = both-no f ∙ p.is_faults;
    })))

pub returns-in-Array : goal.returns-in-Array
unfolding places
returns-in-Array c =
    does_by _ _ _ _ _ _ _ _ c.sign.ensures c.in-Array.is c.array_place.ensures.stays c.array_place.ensures

pub returns-in_default : goal.returns-in_default
unfolding places
returns-in_default c =
    does_stopped place_by _ _ _ _ _ _ _ c.sign.ensures (λ text. ap (λ t. left_at t.now c.args.cursor.now.at) text)
    c.refuse_at.ensures (other_place _ c.in_default.not-Spot c.in_default.not-Array) refl
