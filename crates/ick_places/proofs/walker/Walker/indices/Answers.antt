use Rattle.ick_source.specs.BodyGrammar.{indices}
use Rattle.ick_places.proofs.walker.Walker.indices.Goals as goal

pub returns : goal.returns
unfolding indices
returns c = c.indexing.ensures
