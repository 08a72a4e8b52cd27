use Rattle.ick_places.proofs.BodyWalks.{walks_hash, walks_item}
use Rattle.ick_places.proofs.walker.Walker.item.Goals as goal

pub returns-in-Hash : goal.returns-in-Hash
returns-in-Hash c =
    walks_hash _ _ _ _ _ c.lead-begins.ensures c.in-Hash.is c.sign.ensures.walks c.sign.ensures.goes c.number.ensures
    c.acted.ensures

pub returns : goal.returns
returns c = walks_item _ _ _ _ c.lead-begins.ensures c.in_default.not-Hash c.sign.ensures.walks c.place_after.ensures
