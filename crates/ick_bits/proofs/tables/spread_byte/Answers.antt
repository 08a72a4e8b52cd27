use Rattle.std.proofs.Common.{◌≡◌, ◌/◌, get_or, refl, arith, ◌∙◌}
use Rattle.ick_bits.specs.declared.tables.TheConstants.{SPREAD}
use Rattle.ick_bits.specs.Operators.{sum_below, with_bits, mingled_bit}
use Rattle.ick_bits.proofs.TableLemmas.{true_below, agree_at}
use Rattle.ick_bits.proofs.tables.spread_byte.Goals as goal

pub returns-clause-value : goal.returns-clause-value
unfolding true_below with_bits sum_below
returns-clause-value c =
    c.from.ensures
    ∙ agree_at (λ i. get_or SPREAD i 0) (λ i. with_bits 16 (mingled_bit 0 i)) 256 refl c.args.number (omega arith)

pub returns-clause-half : goal.returns-clause-half
unfolding true_below
returns-clause-half c =
    let small : get_or SPREAD c.args.number 0 / 32768 ≡ 0 =
    agree_at (λ i. get_or SPREAD i 0 / 32768) (λ i. 0) 256 refl c.args.number (omega arith) in
    omega (arith, small, c.from.ensures)
