use Rattle.std.proofs.Common.{◌≡◌, ◌≤◌, ◌++◌, ◌*◌, length, map, take}
use Rattle.std.specs.Char.{digit_value}
use Rattle.ick_bits.specs.Numeral.{symbols_of, bar_byte}
use Rattle.ick_bits.proofs.NumeralSteps.{symbols_from}
use Rattle.ick_bits.proofs.PrintingLemmas.{inked, inked_behind}
use Rattle.ick_bits.proofs.printing.write_bars.Given as goal

abbrev pub invariant-loop-index : goal.invariant-loop-index
invariant-loop-index l =
    record {
      line : take l.end l.text ++ map bar_byte (symbols_from l.digits l.index)
          ≡ map bar_byte (symbols_of (map digit_value l.digits));
      bars : inked_behind l.inked l.end (symbols_from l.digits l.index)
          ≡ inked (symbols_of (map digit_value l.digits));
      within : l.inked ≤ l.end;
      short : l.end ≤ 4 * l.index;
      room : length l.text ≡ 82;
    }
