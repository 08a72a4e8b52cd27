use Rattle.ick_source.specs.BodyGrammar.{assigned}
use Rattle.ick_source.proofs.CursorLemmas.{does_decided}
use Rattle.ick_source.proofs.cursor.Cursor.assigned.Goals as goal

pub returns : goal.returns
unfolding assigned
returns c = does_decided _ _ _ _ _ _ _ c.expect.ensures c.whole.ensures.stays c.whole.ensures
