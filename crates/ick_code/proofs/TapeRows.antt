-- Worked rows of arrays that are printed and read as bytes, computed from the definitions.
use Rattle.std.proofs.Common.{◌≡◌, true, false, List, [], ◌∷◌, ◌++◌, Some, refl}
use Rattle.std.specs.Prelude.{codes}
use Rattle.ick_bits.specs.Operators.{sum_below, with_bits}
use Rattle.ick_bits.specs.Tape.{reversed_byte}
use Rattle.ick_bits.specs.Digits.{line_answer, first_unknown, beginnings, begins_word, word_at, digit_of}
use Rattle.ick_bits.specs.Digits.{number_of_words}
use Rattle.ick_bits.specs.Numeral.{numeral_of, printed}
use Rattle.ick_bits.specs.declared.faults.FaultKind.TheVariants.{Hyperspace}
use Rattle.ick_syntax.specs.Tree.{mesh, scalar}
use Rattle.ick_syntax.specs.BodyTree.{single, whole, calculate, dimension, ignore, give_up, write_in, read_out}
use Rattle.ick_syntax.specs.StatementTree.{StatementTree}
use Rattle.ick_code.specs.meaning.State.{gave_up, faulted}
use Rattle.ick_code.specs.meaning.Move.{advance}
use Rattle.ick_code.proofs.RowWords.{plainly, prints, one, tail, at, seen_after, seen}

-- three elements that spell a greeting
greeting : List StatementTree
greeting =
    plainly (dimension tail (mesh 3 ∷ []))
    ∷ plainly (calculate (at tail (mesh 1 ∷ [])) (mesh 238))
    ∷ plainly (calculate (at tail (mesh 2 ∷ [])) (mesh 124))
    ∷ plainly (calculate (at tail (mesh 3 ∷ [])) (mesh 70))
    ∷ plainly (read_out (whole tail ∷ []))
    ∷ plainly give_up
    ∷ []

prints_a_greeting : seen greeting [] 6 ≡ record { output = codes "Hi\n"; input = []; end = Some gave_up }
unfolding greeting advance reversed_byte with_bits sum_below
prints_a_greeting = refl

-- two bytes of the input, and no third
three_bytes : List StatementTree
three_bytes =
    plainly (dimension tail (mesh 3 ∷ []))
    ∷ plainly (write_in (whole tail ∷ []))
    ∷ plainly (prints (at tail (mesh 1 ∷ []) ∷ at tail (mesh 2 ∷ []) ∷ at tail (mesh 3 ∷ []) ∷ []))
    ∷ plainly give_up
    ∷ []

reads_differences_and_256_past_the_end :
    seen three_bytes (codes "AB") 4
    ≡ record {
      output = printed (numeral_of 65) ++ printed (numeral_of 1) ++ printed (numeral_of 256);
      input = [];
      end = Some gave_up;
    }
unfolding three_bytes advance
reads_differences_and_256_past_the_end = refl

-- no dimensions, and more than one
no_dimensions_to_print :
    seen (plainly (read_out (whole tail ∷ [])) ∷ []) [] 1
    ≡ record { output = []; input = []; end = Some (faulted Hyperspace 1 []) }
unfolding advance
no_dimensions_to_print = refl

two_dimensions_to_print :
    seen (plainly (dimension tail (mesh 1 ∷ mesh 1 ∷ [])) ∷ plainly (read_out (whole tail ∷ [])) ∷ []) [] 2
    ≡ record { output = []; input = []; end = Some (faulted Hyperspace 2 []) }
unfolding advance
two_dimensions_to_print = refl

no_byte_is_taken_without_dimensions :
    seen (plainly (write_in (whole tail ∷ [])) ∷ []) (codes "AB") 1
    ≡ record { output = []; input = codes "AB"; end = Some (faulted Hyperspace 1 []) }
unfolding advance
no_byte_is_taken_without_dimensions = refl

no_byte_is_taken_at_two_dimensions :
    seen (plainly (dimension tail (mesh 1 ∷ mesh 1 ∷ [])) ∷ plainly (write_in (whole tail ∷ [])) ∷ [])
    (codes "AB") 2
    ≡ record { output = []; input = codes "AB"; end = Some (faulted Hyperspace 2 []) }
unfolding advance
no_byte_is_taken_at_two_dimensions = refl

-- an ignored array still takes its bytes, and keeps its elements
ignored_bytes : List StatementTree
ignored_bytes =
    plainly (dimension tail (mesh 2 ∷ []))
    ∷ plainly (ignore (tail ∷ []))
    ∷ plainly (write_in (whole tail ∷ []))
    ∷ plainly (prints (at tail (mesh 2 ∷ []) ∷ []))
    ∷ plainly give_up
    ∷ []

ignored_array_takes_its_bytes :
    seen ignored_bytes (codes "ABC") 5
    ≡ record { output = printed (numeral_of 0); input = codes "C"; end = Some gave_up }
unfolding ignored_bytes advance
ignored_array_takes_its_bytes = refl

-- a line, and then a byte of what is left
line_then_byte : List StatementTree
line_then_byte =
    plainly (dimension tail (mesh 1 ∷ []))
    ∷ plainly (write_in (single (scalar one) ∷ whole tail ∷ []))
    ∷ plainly (prints (scalar one ∷ at tail (mesh 1 ∷ []) ∷ []))
    ∷ plainly give_up
    ∷ []

byte_after_a_line :
    seen line_then_byte (codes "ONE\nA") 4
    ≡ record { output = printed (numeral_of 1) ++ printed (numeral_of 65); input = []; end = Some gave_up }
unfolding line_then_byte advance line_answer first_unknown beginnings begins_word word_at digit_of number_of_words
byte_after_a_line = refl

-- the tape goes on where it stands: a byte that is printed once or twice, by one choice
once_or_twice : List StatementTree
once_or_twice =
    plainly (dimension tail (mesh 1 ∷ []))
    ∷ plainly (calculate (at tail (mesh 1 ∷ [])) (mesh 238))
    ∷ record (plainly (read_out (whole tail ∷ []))) { chance = 50 }
    ∷ plainly (read_out (whole tail ∷ []))
    ∷ plainly give_up
    ∷ []

printed_once :
    seen_after once_or_twice [] (true ∷ true ∷ false ∷ true ∷ true ∷ [])
    ≡ record { output = codes "H"; input = []; end = Some gave_up }
unfolding once_or_twice advance reversed_byte with_bits sum_below
printed_once = refl

printed_twice :
    seen_after once_or_twice [] (true ∷ true ∷ true ∷ true ∷ true ∷ [])
    ≡ record { output = codes "H$"; input = []; end = Some gave_up }
unfolding once_or_twice advance reversed_byte with_bits sum_below
printed_twice = refl

-- the next array is read from where the last byte stood, which the end of the input leaves
read_twice : List StatementTree
read_twice =
    plainly (dimension tail (mesh 2 ∷ []))
    ∷ plainly (write_in (whole tail ∷ whole tail ∷ []))
    ∷ plainly (prints (at tail (mesh 1 ∷ []) ∷ at tail (mesh 2 ∷ []) ∷ []))
    ∷ plainly give_up
    ∷ []

reads_on_from_the_last_byte :
    seen read_twice (codes "AAD") 4
    ≡ record { output = printed (numeral_of 3) ++ printed (numeral_of 256); input = []; end = Some gave_up }
unfolding read_twice advance
reads_on_from_the_last_byte = refl
