use Rattle.std.proofs.Common.{◌≡◌, arith, sym, ◌∙◌, true, get_or, length}
use Rattle.std.proofs.lemmas.List.Sums.{position_or_len_is}
use Rattle.ick_bits.specs.White.{is_white_byte}
use Rattle.ick_bits.proofs.digits.ink_length.Goals as goal

pub returns-then-is_white : goal.returns-then-is_white
returns-then-is_white c =
    let here : is_white_byte (get_or c.args.rest.now c.loop-index.index 0) ≡ true =
    sym c.is_white.ensures ∙ c.if-is_white.true in
    sym (position_or_len_is is_white_byte c.args.rest.now c.loop-index.index 0 (omega arith) c.loop-index.invariant
    (λ l. here))

pub returns : goal.returns
returns c =
    sym (position_or_len_is is_white_byte c.args.rest.now (length c.args.rest.now) 0 (omega arith)
    (λ k h. c.loop-index.invariant k (omega arith)) (λ l. absurd (omega arith)))
