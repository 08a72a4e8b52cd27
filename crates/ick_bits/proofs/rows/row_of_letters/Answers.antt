use Rattle.std.proofs.Common.{refl}
use Rattle.ick_bits.specs.Numeral.{digit_symbols, letter_byte}
use Rattle.ick_bits.specs.declared.rows.TheConstants.{LETTERS}
use Rattle.ick_bits.proofs.TableLemmas.{true_below}
use Rattle.ick_bits.proofs.RowLemmas.{row-right}
use Rattle.ick_bits.proofs.rows.row_of_letters.Goals as goal

pub returns : goal.returns
unfolding true_below digit_symbols
returns c = row-right LETTERS letter_byte refl c.args.place c.args.digit c.requires.place c.requires.digit
