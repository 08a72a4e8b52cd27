use Rattle.ick_places.proofs.BodyWalks.{walks_label}
use Rattle.ick_places.proofs.walker.Walker.label.Goals as goal

pub returns : goal.returns
returns c = walks_label _ _ _ _ _ c.passes.ensures.walks c.number.ensures c.passes-2.ensures.walks c.mark.ensures
