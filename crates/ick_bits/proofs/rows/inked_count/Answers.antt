use Rattle.std.proofs.Common.{◌∙◌}
use Rattle.ick_bits.proofs.RowLemmas.{inked-right}
use Rattle.ick_bits.proofs.rows.inked_count.Goals as goal

pub returns-clause-count : goal.returns-clause-count
returns-clause-count c =
    c.from.ensures ∙ inked-right c.args.place c.args.digit c.requires.place c.requires.digit
