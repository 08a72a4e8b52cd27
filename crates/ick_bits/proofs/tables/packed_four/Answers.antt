use Rattle.std.proofs.Common.{◌≡◌, ◌+◌, ◌*◌, ◌/◌, ◌%◌, get_or, refl, arith, ◌∙◌}
use Rattle.ick_bits.specs.declared.tables.TheConstants.{PACKED}
use Rattle.ick_bits.specs.Operators.{sum_below, ones_below, selected_bits}
use Rattle.ick_bits.proofs.TableLemmas.{true_below, agree_at}
use Rattle.ick_bits.proofs.tables.packed_four.Goals as goal

pub returns : goal.returns
unfolding true_below selected_bits ones_below sum_below
returns c =
    let at =
    agree_at (λ i. get_or PACKED i 0) (λ i. selected_bits (i % 16) (i / 16) 4) 256 refl
    (c.args.mask * 16 + c.args.from) (omega arith) in
    let low : (c.args.mask * 16 + c.args.from) % 16 ≡ c.args.from = omega arith in
    let high : (c.args.mask * 16 + c.args.from) / 16 ≡ c.args.mask = omega arith in
    c.from.ensures ∙ rw (low, high) at at
