use Rattle.ick_states.specs.Hashed.{mix}
use Rattle.ick_states.proofs.parts.mixed.Goals as goal

pub returns : goal.returns
unfolding mix
returns c = c.folded.ensures
