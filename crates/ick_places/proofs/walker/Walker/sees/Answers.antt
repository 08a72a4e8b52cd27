use Rattle.std.proofs.Common.{◌∙◌}
use Rattle.ick_source.proofs.SequenceFound.{word_sees}
use Rattle.ick_places.proofs.walker.Walker.sees.Goals as goal

pub returns : goal.returns
returns c = c.is_some.ensures ∙ word_sees _ _ _ _ c.word_at.ensures
