use Rattle.std.proofs.Common.{get_or, refl, arith, ◌∙◌}
use Rattle.ick_bits.specs.declared.tables.TheConstants.{ONES}
use Rattle.ick_bits.specs.Operators.{sum_below, ones_below}
use Rattle.ick_bits.proofs.TableLemmas.{true_below, agree_at}
use Rattle.ick_bits.proofs.tables.ones_of_four.Goals as goal

pub returns : goal.returns
unfolding true_below ones_below sum_below
returns c = c.from.ensures ∙ agree_at (λ i. get_or ONES i 0) (λ i. ones_below i 4) 16 refl c.args.mask (omega arith)
