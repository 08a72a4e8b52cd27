use Rattle.ick_places.proofs.BodyWalks.{walks_name}
use Rattle.ick_places.proofs.walker.Walker.name.Goals as goal

pub returns : goal.returns
returns c = walks_name _ _ _ _ c.sign.ensures.walks c.number.ensures c.mark.ensures
