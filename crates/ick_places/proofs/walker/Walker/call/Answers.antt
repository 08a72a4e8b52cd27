use Rattle.ick_places.proofs.BodyWalks.{walks_call}
use Rattle.ick_places.proofs.walker.Walker.call.Goals as goal

pub returns : goal.returns
returns c = walks_call _ _ _ _ c.label.ensures c.passes.ensures.walks c.mark.ensures
