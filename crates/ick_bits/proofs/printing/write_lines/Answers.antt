use Rattle.std.proofs.Common.{◌≡◌, ◌<◌, arith, ap, length, map, sym, take_at, ◌∙◌}
use Rattle.std.specs.Char.{digit_value}
use Rattle.ick_bits.specs.Numeral.{numeral_of, symbols_of, printed}
use Rattle.ick_bits.proofs.NumeralLemmas.{some-numeral}
use Rattle.ick_bits.proofs.NumeralSteps.{IsText, text-digits, symbols-all, symbols-start}
use Rattle.ick_bits.proofs.PrintingLemmas.{printed-zero, printed-lines}
use Rattle.ick_bits.proofs.printing.write_lines.Goals as goal

pub returns-then-number-eq0-clause-lines : goal.returns-then-number-eq0-clause-lines
returns-then-number-eq0-clause-lines c =
    let copied = c.copy_from_slice.ensures in
    rw (c.if-number-eq0.true, printed-zero) (take_at c.copy_from_slice.new.self _ 3 (ap length copied.after) ∙ copied.after)

pub write_bars-inked-requires-clause-digits : goal.write_bars-inked-requires-clause-digits
write_bars-inked-requires-clause-digits c =
    text-digits c.args.number _ record {
      below = omega arith;
      text = c.as_bytes-digits.ensures.value ∙ c.format.ensures.text;
    }

pub write_letters-end-requires-clause-digits : goal.write_letters-end-requires-clause-digits
write_letters-end-requires-clause-digits c =
    text-digits c.args.number _ record {
      below = omega arith;
      text = c.as_bytes-digits.ensures.value ∙ c.format.ensures.text;
    }

pub returns-clause-lines : goal.returns-clause-lines
returns-clause-lines c =
    let text : IsText c.args.number c.as_bytes-digits.result.now =
    record { below = omega arith; text = c.as_bytes-digits.ensures.value ∙ c.format.ensures.text } in
    let symbols = symbols_of (map digit_value c.as_bytes-digits.result.now) in
    let whole : symbols ≡ numeral_of c.args.number = sym (symbols-all _) ∙ symbols-start _ _ text in
    let some : 0 < length symbols =
    rw whole (some-numeral c.args.number (omega arith) (omega (arith, c.if-number-eq0.false))) in
    let inked = c.write_bars-inked.ensures in
    let letters = c.write_letters-end.ensures in
    printed-lines symbols c.write_bars-inked.new.text c.write_letters-end.new.text c.write_bars-inked.result
    c.write_letters-end.result some (omega (arith, c.write_bars-inked.array_long, inked.within)) inked.bars
    (omega (arith, letters.within, inked.within)) letters.letters
    ∙ ap printed whole
