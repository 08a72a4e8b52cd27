use Rattle.std.proofs.Common.{ap, refl, subst, sym, ◌∙◌}
use Rattle.ick_syntax.specs.BodyTree.{single}
use Rattle.ick_syntax.specs.Clamped.{clamped_tree, faults_of}
use Rattle.ick_syntax.specs.Tree.{mesh, scalar}
use Rattle.ick_source.specs.BodyGrammar.{item_by, items, place_by}
use Rattle.ick_source.specs.Cursors.{Clamps, Does, plain_items}
use Rattle.ick_source.specs.declared.lead.Lead.TheVariants.{Array}
use Rattle.ick_source.specs.Position.{left_at}
use Rattle.ick_source.proofs.ClampedLemmas.{both-no}
use Rattle.ick_source.proofs.CursorLemmas.{does_by, does_stopped, does_then, does_yield}
use Rattle.ick_source.proofs.PartReadings.{other_item}
use Rattle.ick_source.proofs.part.ItemBodyPart.read.Goals as goal

pub returns-in-Hash : goal.returns-in-Hash
unfolding items clamped_tree faults_of
returns-in-Hash c =
    does_by _ _ _ _ _ _ _ _ c.sign.ensures c.in-Hash.is c.number.ensures.stays
    (does_then _ _ _ _ _ _ _ c.number.ensures (λ u e. e)
    (λ n f p. does_yield _ _ _ (record {
      is_clamped = ap (λ v. single (mesh v)) p.is_clamped;
      is_faults = both-no f ∙ p.is_faults;
    })))

pub returns-in-Spot : goal.returns-in-Spot
unfolding items clamped_tree faults_of
returns-in-Spot c =
    does_by _ _ _ _ _ _ _ _ c.sign.ensures c.in-Spot.is c.named.ensures.stays
    (does_then _ _ _ _ _ _ _ c.named.ensures (λ u e. e)
    (λ x f p. does_yield _ _ _ (record {
      is_clamped = ap (λ v. single (scalar v)) p.is_clamped;
      is_faults = both-no f ∙ p.is_faults;
    })))

pub returns-in-Array : goal.returns-in-Array
unfolding items
returns-in-Array c =
    does_by _ _ _ _ _ _ _ _ c.sign.ensures c.in-Array.is c.array_place.ensures.stays
    (subst (λ z. Does (place_by (Array c.in-Array.kind)) c.sign.new.self c.array_place.new.self (Clamps plain_items z))
    (sym c.item_of.ensures) c.array_place.ensures)

pub returns-in_default : goal.returns-in_default
unfolding items
returns-in_default c =
    does_stopped item_by _ _ _ _ _ _ _ c.sign.ensures (λ text. ap (λ t. left_at t.now c.args.cursor.now.at) text)
    c.refuse_at.ensures (other_item _ c.in_default.not-Spot c.in_default.not-Array c.in_default.not-Hash) refl
