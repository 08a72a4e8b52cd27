-- Values of the definitions, written out: operators, numerals, lines of digit names, messages, texts and the tape.
use Rattle.std.proofs.Common.{◌≡◌, [], Ok, Err, refl}
use Rattle.std.specs.Prelude.{codes}
use Rattle.std.specs.Fmt.{digits}
use Rattle.ick_bits.specs.Digits.{line_answer, first_unknown, beginnings, begins_word, word_at, digit_of}
use Rattle.ick_bits.specs.Digits.{number_of_words}
use Rattle.ick_bits.specs.Faults.{message_of, text_of}
use Rattle.ick_bits.specs.Numeral.{numeral_of, printed, symbols_of, digit_symbols, bar_line}
use Rattle.ick_bits.specs.Operators.{mingled, selected, selected_bits, ones_below, unary, with_neighbours, with_bits}
use Rattle.ick_bits.specs.Operators.{sum_below, and_bit, or_bit, xor_bit}
use Rattle.ick_bits.specs.Quoted.{quoted, escaped}
use Rattle.ick_bits.specs.Tape.{tape_position, tape_difference, reversed_byte}
use Rattle.ick_bits.specs.Values.{Narrow, Wide}
use Rattle.ick_bits.specs.declared.digits.DigitFault.TheVariants.{Word, TooLarge}
use Rattle.ick_bits.specs.declared.faults.FaultKind.TheVariants.{SixtyFour, TooWide, NoDigit}

mingle_left : mingled (Narrow 65535) (Narrow 0) ≡ Ok (Wide 2863311530)
unfolding mingled with_bits sum_below
mingle_left = refl

mingle_right : mingled (Narrow 0) (Narrow 65535) ≡ Ok (Wide 1431655765)
unfolding mingled with_bits sum_below
mingle_right = refl

mingle_above : mingled (Narrow 1) (Wide 65536) ≡ Err SixtyFour
unfolding mingled with_bits sum_below
mingle_above = refl

select_one_way : selected (Narrow 179) (Narrow 201) ≡ Narrow 9
unfolding selected selected_bits ones_below sum_below
select_one_way = refl

select_other_way : selected (Narrow 201) (Narrow 179) ≡ Narrow 17
unfolding selected selected_bits ones_below sum_below
select_other_way = refl

-- the width is that of the 17 ones on the right
select_seventeen : selected (Narrow 1) (Wide 131071) ≡ Wide 1
unfolding selected selected_bits ones_below sum_below
select_seventeen = refl

unary_and_row : unary and_bit (Narrow 77) ≡ Narrow 4
unfolding unary with_neighbours with_bits sum_below
unary_and_row = refl

unary_or_row : unary or_bit (Narrow 77) ≡ Narrow 32879
unfolding unary with_neighbours with_bits sum_below
unary_or_row = refl

unary_xor_row : unary xor_bit (Narrow 77) ≡ Narrow 32875
unfolding unary with_neighbours with_bits sum_below
unary_xor_row = refl

unary_or_wide : unary or_bit (Wide 1) ≡ Wide 2147483649
unfolding unary with_neighbours with_bits sum_below
unary_or_wide = refl

four_thousand : printed (numeral_of 4000) ≡ codes " _\nMV\n"
unfolding numeral_of symbols_of digit_symbols printed bar_line digits
four_thousand = refl

nothing : printed (numeral_of 0) ≡ codes "_\n\n"
unfolding numeral_of symbols_of digit_symbols printed bar_line digits
nothing = refl

greatest : printed (numeral_of 4294967295) ≡ codes " _    _ _____\nmvccxcMvCMLXVMMCCXCV\n"
unfolding numeral_of symbols_of digit_symbols printed bar_line digits
greatest = refl

digit_names : line_answer (codes "oh NINER") ≡ Ok 9
unfolding line_answer first_unknown beginnings begins_word word_at digit_of number_of_words
digit_names = refl

no_names : line_answer [] ≡ Ok 0
unfolding line_answer first_unknown beginnings begins_word word_at digit_of number_of_words
no_names = refl

no_digit : line_answer (codes "ONE TEN") ≡ Err (Word 4 7)
unfolding line_answer first_unknown beginnings begins_word word_at digit_of number_of_words
no_digit = refl

too_large : line_answer (codes "FOUR TWO NINE FOUR NINE SIX SEVEN TWO NINE SIX") ≡ Err TooLarge
unfolding line_answer first_unknown beginnings begins_word word_at digit_of number_of_words
too_large = refl

too_wide : message_of TooWide 1 []
    ≡ codes "ICL275I DON'T BYTE OFF MORE THAN YOU CAN CHEW\n        ON THE WAY TO 2\n        CORRECT SOURCE AND RESUBNIT\n"
unfolding message_of text_of digits
too_wide = refl

no_digit_ten : text_of NoDigit (codes "TEN") ≡ codes "WHAT BASE AND/OR LANGUAGE INCLUDES TEN?"
unfolding text_of
no_digit_ten = refl

quoted_line : quoted (codes "A \"B\"\n") ≡ codes "\"A \\\"B\\\"\\n\""
unfolding quoted escaped digits
quoted_line = refl

tape_moves : tape_position 0 238 ≡ 18
tape_moves = refl

tape_byte : reversed_byte 18 ≡ 72
unfolding reversed_byte with_bits sum_below
tape_byte = refl

tape_reads : tape_difference 66 65 ≡ 255
tape_reads = refl
