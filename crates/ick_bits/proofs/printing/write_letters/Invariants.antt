use Rattle.std.proofs.Common.{◌≡◌, ◌≤◌, ◌+◌, ◌++◌, ◌*◌, length, map, take}
use Rattle.std.specs.Char.{digit_value}
use Rattle.ick_bits.specs.Numeral.{symbols_of, letter_byte}
use Rattle.ick_bits.proofs.NumeralSteps.{symbols_from}
use Rattle.ick_bits.proofs.printing.write_letters.Given as goal

abbrev pub invariant-loop-index : goal.invariant-loop-index
invariant-loop-index l =
    record {
      line : take l.end l.text ++ map letter_byte (symbols_from l.digits l.index)
          ≡ take l.start l.fn.text ++ map letter_byte (symbols_of (map digit_value l.digits));
      short : l.end ≤ l.start + 4 * l.index;
      room : length l.text ≡ 82;
    }
