use Rattle.ick_places.proofs.BodyWalks.{walks_spot_body, walks_array_body, walks_words}
use Rattle.ick_places.proofs.walker.Walker.body.Goals as goal

pub returns-in-Spot : goal.returns-in-Spot
returns-in-Spot c =
    walks_spot_body _ _ _ _ c.in-Spot.kind c.lead.ensures c.in-Spot.is c.sign.ensures.walks c.scalar_body.ensures

pub returns-in-Array : goal.returns-in-Array
returns-in-Array c =
    walks_array_body _ _ _ _ c.in-Array.kind c.lead.ensures c.in-Array.is c.sign-in-Array.ensures.walks c.array_body.ensures

pub returns-in_default : goal.returns-in_default
returns-in_default c =
    walks_words _ _ _ c.lead.ensures c.in_default.not-Spot c.in_default.not-Array c.worded.ensures
