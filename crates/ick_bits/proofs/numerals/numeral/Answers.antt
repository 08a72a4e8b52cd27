use Rattle.std.proofs.Common.{◌∙◌, ap, arith, append_assoc}
use Rattle.ick_bits.specs.Numeral.{worth}
use Rattle.ick_bits.proofs.NumeralLemmas.{worth-numeral, length-numeral}
use Rattle.ick_bits.proofs.NumeralSteps.{IsText, text-at, symbols-start, all-digits, room, one-more}
use Rattle.ick_bits.proofs.numerals.numeral.Goals as goal

pub loop-index-init : goal.loop-index-init
loop-index-init c =
    let t : IsText c.args.number c.as_bytes-digits.result.now =
    record { below = omega arith; text = c.as_bytes-digits.ensures.value ∙ c.format.ensures.text } in
    rw c.new-symbols.ensures (symbols-start _ _ t)

pub overflow_sub-digit : goal.overflow_sub-digit
overflow_sub-digit c =
    let t : IsText c.args.number c.as_bytes-digits.result.now =
    record { below = omega arith; text = c.as_bytes-digits.ensures.value ∙ c.format.ensures.text } in
    (text-at _ _ t c.loop-index.index c.loop-index-test.true).0

pub push_digit-requires-clause-digit : goal.push_digit-requires-clause-digit
push_digit-requires-clause-digit c =
    let t : IsText c.args.number c.as_bytes-digits.result.now =
    record { below = omega arith; text = c.as_bytes-digits.ensures.value ∙ c.format.ensures.text } in
    omega (arith, (text-at _ _ t c.loop-index.index c.loop-index-test.true).1)

pub push_digit-requires-clause-room : goal.push_digit-requires-clause-room
push_digit-requires-clause-room c =
    let t : IsText c.args.number c.as_bytes-digits.result.now =
    record { below = omega arith; text = c.as_bytes-digits.ensures.value ∙ c.format.ensures.text } in
    rw c.letters_at.ensures (room c.args.number (omega arith) _ _ _
    (one-more _ _ t c.loop-index.index c.loop-index-test.true _ c.loop-index.invariant))

pub loop-index-preserved : goal.loop-index-preserved
loop-index-preserved c =
    let t : IsText c.args.number c.as_bytes-digits.result.now =
    record { below = omega arith; text = c.as_bytes-digits.ensures.value ∙ c.format.ensures.text } in
    rw (c.push_digit.ensures, c.letters_at.ensures, append_assoc)
    (one-more _ _ t c.loop-index.index c.loop-index-test.true _ c.loop-index.invariant)

pub returns-clause-symbols : goal.returns-clause-symbols
returns-clause-symbols c =
    all-digits c.as_bytes-digits.result.now c.loop-index.index (omega arith) _ _ c.loop-index.invariant

pub returns-clause-worth : goal.returns-clause-worth
returns-clause-worth c =
    let e = all-digits c.as_bytes-digits.result.now c.loop-index.index (omega arith) _ _ c.loop-index.invariant in
    ap worth e ∙ worth-numeral c.args.number (omega arith)

pub returns-clause-short : goal.returns-clause-short
returns-clause-short c =
    let e = all-digits c.as_bytes-digits.result.now c.loop-index.index (omega arith) _ _ c.loop-index.invariant in
    rw e (length-numeral c.args.number (omega arith))
