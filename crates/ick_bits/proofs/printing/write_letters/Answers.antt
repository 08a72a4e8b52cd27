use Rattle.std.proofs.Common.{◌≡◌, ◌++◌, ◌-◌, ◌≤◌, length, arith, ap, map, take}
use Rattle.ick_bits.specs.Numeral.{letter_byte, letters_of, place_symbols}
use Rattle.ick_bits.proofs.NumeralSteps.{digit-at, digit-below, symbols-all, symbols-next}
use Rattle.ick_bits.proofs.PrintingLemmas.{line-row, line-more, line-whole}
use Rattle.ick_bits.proofs.printing.write_letters.Goals as goal

pub loop-index-init : goal.loop-index-init
loop-index-init c =
    record {
      line = ap (λ ss. take c.args.start c.args.text.now ++ map letter_byte ss) (symbols-all c.args.digits.now);
      short = omega arith;
      room = c.told-text;
    }

pub overflow_sub-digit : goal.overflow_sub-digit
overflow_sub-digit c = (digit-at _ c.requires.digits c.loop-index.index c.loop-index-test.true).0

pub row_of_letters-requires-clause-digit : goal.row_of_letters-requires-clause-digit
row_of_letters-requires-clause-digit c =
    rw c.from-digit.ensures (digit-below _ c.requires.digits c.loop-index.index c.loop-index-test.true)

pub write_row-requires : goal.write_row-requires
write_row-requires c = omega (arith, c.loop-index.invariant.short, c.requires)

pub letter_count-end-requires : goal.letter_count-end-requires
letter_count-end-requires c =
    rw c.from-digit.ensures (digit-below _ c.requires.digits c.loop-index.index c.loop-index-test.true)

pub loop-index-preserved : goal.loop-index-preserved
loop-index-preserved c =
    let inv = c.loop-index.invariant in
    let place = length c.args.digits.now - 1 - c.loop-index.index in
    let symbols = place_symbols place c.from-digit.result in
    let step =
    symbols-next _ c.requires.digits c.loop-index.index c.loop-index-test.true c.from-digit.result c.from-digit.ensures in
    let few : c.letter_count-end.result ≤ 4 = omega (arith, c.letter_count-end.ensures.few) in
    let long : c.letter_count-end.result ≡ length symbols = c.letter_count-end.ensures.count (letters_of place) in
    let row =
    line-row letter_byte c.loop-index.text c.write_row.new.text c.row_of_letters.result c.loop-index.end
    c.letter_count-end.result symbols long few c.write_row.ensures (omega (arith, inv.short, inv.room, c.requires))
    c.row_of_letters.ensures in
    record {
      line = rw row (line-more letter_byte _ _ _ step _ _ inv.line);
      short = omega (arith, few, inv.short);
      room = c.write_row.array_long;
    }

pub returns-clause-letters : goal.returns-clause-letters
returns-clause-letters c =
    line-whole letter_byte c.args.digits.now c.loop-index.index (omega arith) _ _ c.loop-index.invariant.line

pub returns-clause-within : goal.returns-clause-within
returns-clause-within c = omega (arith, c.loop-index.invariant.short, c.requires)
