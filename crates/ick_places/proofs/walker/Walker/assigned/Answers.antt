use Rattle.ick_source.specs.BodyGrammar.{assigned, wholes}
use Rattle.ick_places.specs.Bodies.{assigned_marks, whole_marks}
use Rattle.ick_places.proofs.BodyWalks.{walks_worded}
use Rattle.ick_places.proofs.walker.Walker.assigned.Goals as goal

pub returns : goal.returns
unfolding assigned assigned_marks
returns c = walks_worded _ wholes _ _ _ whole_marks c.passes.ensures.walks c.whole.ensures
