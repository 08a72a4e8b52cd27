use Rattle.ick_places.proofs.BodyWalks.{walks_gerund}
use Rattle.ick_places.proofs.walker.Walker.gerund.Goals as goal

pub returns : goal.returns
returns c = walks_gerund _ _ c.gerund_words.ensures _ c.mark.ensures
