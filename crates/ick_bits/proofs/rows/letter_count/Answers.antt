use Rattle.std.proofs.Common.{◌∙◌}
use Rattle.ick_bits.proofs.RowLemmas.{count-right}
use Rattle.ick_bits.proofs.rows.letter_count.Goals as goal

pub returns-clause-count : goal.returns-clause-count
returns-clause-count c = λ letters. c.from.ensures ∙ count-right letters c.args.digit c.requires
