use Rattle.std.proofs.Common.{◌∙◌}
use Rattle.ick_source.proofs.SequenceFound.{word_sees}
use Rattle.ick_source.proofs.cursor.Cursor.sees.Goals as goal

pub returns : goal.returns
returns c = record { is = λ e. c.is_some-2.ensures ∙ word_sees _ _ _ _ c.word_at.ensures }
