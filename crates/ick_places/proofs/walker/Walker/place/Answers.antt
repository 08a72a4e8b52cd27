use Rattle.ick_places.proofs.BodyWalks.{walks_place}
use Rattle.ick_places.proofs.walker.Walker.place.Goals as goal

pub returns : goal.returns
returns c = walks_place _ _ _ _ c.lead-begins.ensures c.sign.ensures.walks c.place_after.ensures
