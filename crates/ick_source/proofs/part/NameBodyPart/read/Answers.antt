use Rattle.std.proofs.Common.{ap, refl}
use Rattle.ick_source.specs.BodyGrammar.{names, name_by}
use Rattle.ick_source.specs.Position.{left_at}
use Rattle.ick_source.proofs.CursorLemmas.{does_by, does_stopped}
use Rattle.ick_source.proofs.PartReadings.{other_name}
use Rattle.ick_source.proofs.part.NameBodyPart.read.Goals as goal

pub returns-in-Spot : goal.returns-in-Spot
unfolding names
returns-in-Spot c =
    does_by _ _ _ _ _ _ _ _ c.sign.ensures c.in-Spot.is c.named.ensures.stays c.named.ensures

pub returns-in-Array : goal.returns-in-Array
unfolding names
returns-in-Array c =
    does_by _ _ _ _ _ _ _ _ c.sign.ensures c.in-Array.is c.named-in-Array.ensures.stays c.named-in-Array.ensures

pub returns-in_default : goal.returns-in_default
unfolding names
returns-in_default c =
    does_stopped name_by _ _ _ _ _ _ _ c.sign.ensures (λ text. ap (λ t. left_at t.now c.args.cursor.now.at) text)
    c.refuse_at.ensures (other_name _ c.in_default.not-Spot c.in_default.not-Array) refl
