use Rattle.ick_source.specs.BodyGrammar.{wholes}
use Rattle.ick_places.proofs.WalkLemmas.{walks_made}
use Rattle.ick_places.proofs.walker.Walker.whole.Goals as goal

pub returns : goal.returns
unfolding wholes
returns c = walks_made _ _ _ _ _ c.expression.ensures
