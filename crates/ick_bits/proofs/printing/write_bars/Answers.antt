use Rattle.std.proofs.Common.{◌≡◌, ◌-◌, ◌≤◌, length, arith, ap, map, sym, take, ◌∙◌}
use Rattle.std.specs.Char.{digit_value}
use Rattle.ick_bits.specs.Numeral.{bar_byte, letters_of, place_symbols, symbols_of}
use Rattle.ick_bits.proofs.NumeralSteps.{digit-at, digit-below, symbols-all, symbols-next}
use Rattle.ick_bits.proofs.PrintingLemmas.{inked, inked_behind, behind-within, bar_line-begins, behind-start, behind-more, behind-whole}
use Rattle.ick_bits.proofs.PrintingLemmas.{behind-some, behind-none, line-begins, line-row, line-more}
use Rattle.ick_bits.proofs.printing.write_bars.Goals as goal
use Rattle.ick_bits.proofs.printing.write_bars.Goals.{then-count-gt0, else-count-gt0}

pub loop-index-init : goal.loop-index-init
loop-index-init c =
    let whole = symbols-all c.args.digits.now in
    record {
      line = ap (map bar_byte) whole;
      bars = behind-start _ ∙ ap inked whole;
      within = omega arith;
      short = omega arith;
      room = c.told-text;
    }

pub overflow_sub-digits : goal.overflow_sub-digits
overflow_sub-digits c = (digit-at _ c.requires.digits c.loop-index.index (omega arith)).0

pub row_of_bars-requires-clause-digit : goal.row_of_bars-requires-clause-digit
row_of_bars-requires-clause-digit c =
    rw c.from-digit.ensures (digit-below _ c.requires.digits c.loop-index.index (omega arith))

pub write_row-requires : goal.write_row-requires
write_row-requires c = omega (arith, c.loop-index.invariant.short, c.requires.few)

pub inked_count-count-requires-clause-digit : goal.inked_count-count-requires-clause-digit
inked_count-count-requires-clause-digit c =
    rw c.from-digit.ensures (digit-below _ c.requires.digits c.loop-index.index (omega arith))

pub letter_count-end-requires : goal.letter_count-end-requires
letter_count-end-requires c =
    rw c.from-digit.ensures (digit-below _ c.requires.digits c.loop-index.index (omega arith))

pub loop-index-preserved : goal.loop-index-preserved
loop-index-preserved c =
    let inv = c.loop-index.invariant in
    let place = length c.args.digits.now - 1 - c.loop-index.index in
    let symbols = place_symbols place c.from-digit.result in
    let step =
    symbols-next _ c.requires.digits c.loop-index.index (omega arith) c.from-digit.result c.from-digit.ensures in
    let few : c.letter_count-end.result ≤ 4 = omega (arith, c.letter_count-end.ensures.few) in
    let long : c.letter_count-end.result ≡ length symbols = c.letter_count-end.ensures.count (letters_of place) in
    let row =
    line-row bar_byte c.loop-index.text c.write_row.new.text c.row_of_bars.result c.loop-index.end
    c.letter_count-end.result symbols long few c.write_row.ensures (omega (arith, inv.short, inv.room, c.requires.few))
    c.row_of_bars.ensures in
    let next : c.if-count-gt0.inked ≡ inked_behind c.loop-index.inked c.loop-index.end symbols =
    elim c.if-count-gt0.branch [
      | then-count-gt0 w ↦ w.inked-is ∙ behind-some c.loop-index.inked c.loop-index.end c.inked_count-count.result symbols
          c.inked_count-count.ensures.count w.if-count-gt0.true
      | else-count-gt0 w ↦ w.inked-is ∙ behind-none c.loop-index.inked c.loop-index.end c.inked_count-count.result symbols
          c.inked_count-count.ensures.count (omega (arith, w.if-count-gt0.false))
    ] in
    record {
      line = rw row (line-more bar_byte _ _ _ step _ _ inv.line);
      bars = rw long (behind-more _ symbols _ step c.loop-index.inked c.loop-index.end c.if-count-gt0.inked _ next inv.bars);
      within = rw (long, next) (behind-within c.loop-index.inked c.loop-index.end symbols inv.within);
      short = omega (arith, few, inv.short);
      room = c.write_row.array_long;
    }

pub returns-clause-bars : goal.returns-clause-bars
returns-clause-bars c =
    let inv = c.loop-index.invariant in
    let bars =
    behind-whole _ c.requires.digits c.loop-index.index (omega arith) (omega arith) _ _ _ inv.bars in
    let symbols = symbols_of (map digit_value c.args.digits.now) in
    line-begins c.loop-index.end c.loop-index.inked c.loop-index.text _ _ inv.within
    (omega (arith, inv.short, inv.room, c.requires.few)) inv.line
    ∙ ap (λ n. take n (map bar_byte symbols)) bars ∙ sym (bar_line-begins symbols)

pub returns-clause-within : goal.returns-clause-within
returns-clause-within c = omega (arith, c.loop-index.invariant.within, c.loop-index.invariant.short, c.requires.few)
