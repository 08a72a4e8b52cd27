-- Worked programs, run by the definitions: what they append, and how they end.
use Rattle.std.proofs.Common.{◌≡◌, ℕ, List, [], ◌∷◌, ◌++◌, Some, refl}
use Rattle.std.specs.Prelude.{codes}
use Rattle.ick_bits.specs.Operators.{sum_below, with_bits, mingled, ones_below, selected_bits, selected}
use Rattle.ick_bits.specs.Operators.{with_neighbours, unary as on_one}
use Rattle.ick_bits.specs.Digits.{line_answer, first_unknown, beginnings, begins_word, word_at, digit_of}
use Rattle.ick_bits.specs.Digits.{number_of_words}
use Rattle.ick_bits.specs.Numeral.{numeral_of, printed}
use Rattle.ick_bits.specs.declared.faults.FaultKind.TheVariants.{Hyperspace, TooWide, NothingStashed, ResumeZero}
use Rattle.ick_bits.specs.declared.faults.FaultKind.TheVariants.{Rupture, NoDigit, NoInput}
use Rattle.ick_syntax.specs.declared.tree.UnaryOp.TheVariants.{And, Or, Xor}
use Rattle.ick_syntax.specs.declared.tree.BinaryOp.TheVariants.{Mingle, Select}
use Rattle.ick_syntax.specs.Tree.{mesh, scalar, unary, binary}
use Rattle.ick_syntax.specs.StatementTree.{StatementTree}
use Rattle.ick_syntax.specs.BodyTree.{calculate, dimension, next, resume, stash, retrieve, ignore, remember, give_up}
use Rattle.ick_code.specs.meaning.State.{gave_up, faulted}
use Rattle.ick_code.specs.meaning.Move.{advance}
use Rattle.ick_code.proofs.RowWords.{plainly, labelled, reads, prints, one, two, three, double, tail, at, seen}

-- a number that doesn't fit a onespot
wide_number : List StatementTree
wide_number = plainly (calculate (scalar one) (binary Mingle (mesh 65535) (mesh 1))) ∷ plainly give_up ∷ []

too_wide_for_a_onespot : seen wide_number [] 1 ≡ record { output = []; input = []; end = Some (faulted TooWide 1 []) }
unfolding advance wide_number mingled with_bits sum_below
too_wide_for_a_onespot = refl

-- a stash, an ignored name, and a second RETRIEVE that finds nothing
stashes : List StatementTree
stashes =
    plainly (calculate (scalar one) (mesh 5))
    ∷ plainly (stash (one ∷ []))
    ∷ plainly (calculate (scalar one) (mesh 6))
    ∷ plainly (ignore (one ∷ []))
    ∷ plainly (retrieve (one ∷ []))
    ∷ plainly (prints (scalar one ∷ []))
    ∷ plainly (remember (one ∷ []))
    ∷ plainly (retrieve (one ∷ []))
    ∷ plainly give_up
    ∷ []

second_retrieve_finds_nothing :
    seen stashes [] 8
    ≡ record { output = printed (numeral_of 6); input = []; end = Some (faulted NothingStashed 8 []) }
unfolding advance stashes
second_retrieve_finds_nothing = refl

-- the unary operators, and three items from the left
operators : List StatementTree
operators =
    plainly (calculate (scalar one) (unary And (mesh 77)))
    ∷ plainly (calculate (scalar two) (unary Or (mesh 77)))
    ∷ plainly (calculate (scalar three) (unary Xor (mesh 77)))
    ∷ plainly (prints (scalar one ∷ scalar two ∷ scalar three ∷ []))
    ∷ plainly give_up
    ∷ []

items_from_the_left :
    seen operators [] 5
    ≡ record {
      output = printed (numeral_of 4) ++ printed (numeral_of 32879) ++ printed (numeral_of 32875);
      input = [];
      end = Some gave_up;
    }
unfolding advance operators on_one with_neighbours with_bits sum_below
items_from_the_left = refl

-- the greatest twospot
greatest : List StatementTree
greatest =
    plainly (calculate (scalar double) (binary Mingle (mesh 65535) (mesh 65535)))
    ∷ plainly (prints (scalar double ∷ []))
    ∷ plainly give_up
    ∷ []

longest_numeral :
    seen greatest [] 3
    ≡ record { output = printed (numeral_of 4294967295); input = []; end = Some gave_up }
unfolding advance greatest mingled with_bits sum_below
longest_numeral = refl

-- select both ways round
selects : List StatementTree
selects =
    plainly (calculate (scalar one) (binary Select (mesh 179) (mesh 201)))
    ∷ plainly (calculate (scalar two) (binary Select (mesh 201) (mesh 179)))
    ∷ plainly (prints (scalar one ∷ scalar two ∷ []))
    ∷ plainly give_up
    ∷ []

nine_and_seventeen :
    seen selects [] 4
    ≡ record { output = printed (numeral_of 9) ++ printed (numeral_of 17); input = []; end = Some gave_up }
unfolding advance selects selected selected_bits ones_below sum_below
nine_and_seventeen = refl

-- a number that is read in, and lines that are none
reading : List StatementTree
reading =
    plainly (reads (scalar one ∷ []))
    ∷ plainly (prints (scalar one ∷ []))
    ∷ plainly give_up
    ∷ []

number_in_words :
    seen reading (codes "oh NINER\n") 3
    ≡ record { output = printed (numeral_of 9); input = []; end = Some gave_up }
unfolding advance reading line_answer first_unknown beginnings begins_word word_at digit_of number_of_words
number_in_words = refl

empty_line : seen reading (codes "\n") 3 ≡ record { output = printed (numeral_of 0); input = []; end = Some gave_up }
unfolding advance reading line_answer first_unknown beginnings begins_word word_at digit_of number_of_words
empty_line = refl

no_digit :
    seen reading (codes "TEN\n") 1
    ≡ record { output = []; input = []; end = Some (faulted NoDigit 1 (codes "TEN")) }
unfolding advance reading line_answer first_unknown beginnings begins_word word_at digit_of number_of_words
no_digit = refl

no_line : seen reading [] 1 ≡ record { output = []; input = []; end = Some (faulted NoInput 1 []) }
unfolding advance reading
no_line = refl

one_too_many :
    seen reading (codes "SIX FIVE FIVE THREE SIX\n") 1
    ≡ record { output = []; input = []; end = Some (faulted TooWide 1 []) }
unfolding advance reading line_answer first_unknown beginnings begins_word word_at digit_of number_of_words
one_too_many = refl

-- an array of two rows and three columns: an element that is set, one that isn't, and one that isn't there
elements : ℕ → ℕ → List StatementTree
elements row column =
    plainly (dimension tail (mesh 2 ∷ mesh 3 ∷ []))
    ∷ plainly (calculate (at tail (mesh 2 ∷ mesh 3 ∷ [])) (mesh 7))
    ∷ plainly
    (prints (at tail (mesh row ∷ mesh column ∷ []) ∷ at tail (binary Mingle (mesh 1) (mesh 0) ∷ mesh 1 ∷ [])
    ∷ []))
    ∷ plainly give_up
    ∷ []

set_and_unset :
    seen (elements 2 3) [] 4
    ≡ record { output = printed (numeral_of 7) ++ printed (numeral_of 0); input = []; end = Some gave_up }
unfolding advance elements mingled with_bits sum_below
set_and_unset = refl

no_such_element : seen (elements 3 1) [] 3 ≡ record { output = []; input = []; end = Some (faulted Hyperspace 3 []) }
unfolding advance elements mingled with_bits sum_below
no_such_element = refl

-- NEXT twice, and RESUME of both returns
calls : List StatementTree
calls =
    plainly (next 1)
    ∷ plainly (prints (mesh 1 ∷ []))
    ∷ plainly give_up
    ∷ labelled 1 (next 2)
    ∷ plainly (prints (mesh 3 ∷ []))
    ∷ labelled 2 (resume (mesh 2))
    ∷ []

goes_back_twice : seen calls [] 5 ≡ record { output = printed (numeral_of 1); input = []; end = Some gave_up }
unfolding advance calls
goes_back_twice = refl

no_return :
    seen (plainly (resume (mesh 0)) ∷ []) [] 1
    ≡ record { output = []; input = []; end = Some (faulted ResumeZero 1 []) }
unfolding advance
no_return = refl

no_such_return :
    seen (plainly (resume (mesh 1)) ∷ []) [] 1
    ≡ record { output = []; input = []; end = Some (faulted Rupture 1 []) }
unfolding advance
no_such_return = refl
