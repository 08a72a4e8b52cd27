-- Cases that no worked row shows, computed from the definitions.
use Rattle.std.proofs.Common.{◌≡◌, ℕ, true, false, Bool, List, [], ◌∷◌, ◌++◌, Some, None, refl}
use Rattle.std.specs.Prelude.{codes, replicate}
use Rattle.ick_bits.specs.Operators.{sum_below, with_bits, mingled, with_neighbours, unary as on_one}
use Rattle.ick_bits.specs.Digits.{line_answer, first_unknown, beginnings, begins_word, word_at, digit_of}
use Rattle.ick_bits.specs.Digits.{number_of_words}
use Rattle.ick_bits.specs.Numeral.{numeral_of, printed}
use Rattle.ick_bits.specs.declared.faults.FaultKind.TheVariants.{Hyperspace, TooWide, ZeroDimension, NothingStashed}
use Rattle.ick_bits.specs.declared.faults.FaultKind.TheVariants.{Rupture, NoDigit, SixtyFour, OffTheEdge, Unrecognised}
use Rattle.ick_syntax.specs.declared.tree.UnaryOp.TheVariants.{Or, Xor}
use Rattle.ick_syntax.specs.declared.tree.BinaryOp.TheVariants.{Mingle}
use Rattle.ick_syntax.specs.declared.body.Gerund.{Gerund}
use Rattle.ick_syntax.specs.declared.body.Gerund.TheVariants.{Calculating, Nexting, Forgetting, Resuming, Stashing}
use Rattle.ick_syntax.specs.declared.body.Gerund.TheVariants.{Retrieving, Ignoring, Remembering, Abstaining}
use Rattle.ick_syntax.specs.declared.body.Gerund.TheVariants.{Reinstating, WritingIn, ReadingOut}
use Rattle.ick_syntax.specs.Tree.{Tree, mesh, scalar, unary, binary}
use Rattle.ick_syntax.specs.StatementTree.{StatementTree}
use Rattle.ick_syntax.specs.BodyTree.{calculate, dimension, next, resume, stash, retrieve, ignore, remember}
use Rattle.ick_syntax.specs.BodyTree.{abstain_label, abstain_kinds, reinstate_label, reinstate_kinds, give_up}
use Rattle.ick_code.specs.meaning.State.{State, gave_up, faulted}
use Rattle.ick_code.specs.meaning.Completion.{done, faults}
use Rattle.ick_code.specs.meaning.Control.{resume as do_resume, forget as do_forget}
use Rattle.ick_code.specs.meaning.Move.{advance, first_state, ask, plain, choice}
use Rattle.ick_code.proofs.RowWords.{plainly, labelled, reads, prints, one, two, double, tail, other_tail, hybrid, at}
use Rattle.ick_code.proofs.RowWords.{after, seen}

-- both operands of mingle are evaluated before E533: `DO .1 <- :1$,1SUB#9` with :1 too great is E241
great : Tree
great = binary Mingle (mesh 65535) (mesh 1)

too_great : Tree
too_great = binary Mingle great great

both_operands_first : List StatementTree
both_operands_first = plainly (calculate (scalar one) (binary Mingle great (at tail (mesh 9 ∷ [])))) ∷ []

element_fault_before_mingle_fault :
    seen both_operands_first [] 1
    ≡ record { output = []; input = []; end = Some (faulted Hyperspace 1 []) }
unfolding advance both_operands_first great mingled with_bits sum_below
element_fault_before_mingle_fault = refl

mingle_fault_of_the_left_operand :
    seen (plainly (calculate (scalar one) (binary Mingle too_great (at tail (mesh 9 ∷ [])))) ∷ []) [] 1
    ≡ record { output = []; input = []; end = Some (faulted SixtyFour 1 []) }
unfolding advance too_great great mingled with_bits sum_below
mingle_fault_of_the_left_operand = refl

-- the right side, then the subscripts, then E241, then E275
right_side_before_subscripts : List StatementTree
right_side_before_subscripts =
    plainly (calculate (at tail (too_great ∷ [])) (at other_tail (mesh 9 ∷ [])))
    ∷ []

right_side_fault_first :
    seen right_side_before_subscripts [] 1
    ≡ record { output = []; input = []; end = Some (faulted Hyperspace 1 []) }
unfolding advance right_side_before_subscripts too_great great mingled with_bits sum_below
right_side_fault_first = refl

subscripts_before_place : List StatementTree
subscripts_before_place = plainly (calculate (at tail (mesh 9 ∷ too_great ∷ [])) great) ∷ []

subscript_fault_before_the_element :
    seen subscripts_before_place [] 1
    ≡ record { output = []; input = []; end = Some (faulted SixtyFour 1 []) }
unfolding advance subscripts_before_place too_great great mingled with_bits sum_below
subscript_fault_before_the_element = refl

place_before_size : ℕ → List StatementTree
place_before_size n =
    plainly (dimension tail (mesh 3 ∷ [])) ∷ plainly (calculate (at tail (mesh n ∷ [])) great) ∷ []

element_fault_before_the_size :
    seen (place_before_size 9) [] 2
    ≡ record { output = []; input = []; end = Some (faulted Hyperspace 2 []) }
unfolding advance place_before_size great mingled with_bits sum_below
element_fault_before_the_size = refl

too_wide_for_an_element :
    seen (place_before_size 3) [] 2
    ≡ record { output = []; input = []; end = Some (faulted TooWide 2 []) }
unfolding advance place_before_size great mingled with_bits sum_below
too_wide_for_an_element = refl

-- ignored names: E275 all the same, new dimensions not, a line is taken
ignored_too_wide : List StatementTree
ignored_too_wide = plainly (ignore (one ∷ [])) ∷ plainly (calculate (scalar one) great) ∷ []

ignored_too_wide_is_a_fault :
    seen ignored_too_wide [] 2
    ≡ record { output = []; input = []; end = Some (faulted TooWide 2 []) }
unfolding advance ignored_too_wide great mingled with_bits sum_below
ignored_too_wide_is_a_fault = refl

ignored_dimension : ℕ → List StatementTree
ignored_dimension n =
    plainly (dimension tail (mesh 2 ∷ []))
    ∷ plainly (ignore (tail ∷ []))
    ∷ plainly (dimension tail (mesh n ∷ []))
    ∷ plainly (remember (tail ∷ []))
    ∷ plainly (prints (at tail (mesh 2 ∷ []) ∷ at tail (mesh 3 ∷ []) ∷ []))
    ∷ plainly give_up
    ∷ []

ignored_array_keeps_its_dimensions :
    seen (ignored_dimension 5) [] 5
    ≡ record { output = printed (numeral_of 0); input = []; end = Some (faulted Hyperspace 5 []) }
unfolding advance ignored_dimension
ignored_array_keeps_its_dimensions = refl

ignored_zero_dimension_is_a_fault :
    seen (ignored_dimension 0) [] 3
    ≡ record { output = []; input = []; end = Some (faulted ZeroDimension 3 []) }
unfolding advance ignored_dimension
ignored_zero_dimension_is_a_fault = refl

ignored_line : List StatementTree
ignored_line =
    plainly (ignore (one ∷ []))
    ∷ plainly (reads (scalar one ∷ scalar two ∷ []))
    ∷ plainly (prints (scalar one ∷ scalar two ∷ []))
    ∷ plainly give_up
    ∷ []

ignored_name_takes_its_line :
    seen ignored_line (codes "ONE\nTWO\nSIX") 4
    ≡ record { output = printed (numeral_of 0) ++ printed (numeral_of 2); input = codes "SIX"; end = Some gave_up }
unfolding advance ignored_line line_answer first_unknown beginnings begins_word word_at digit_of number_of_words
ignored_name_takes_its_line = refl

-- a list of WRITE IN that is partly done: the first line is stored, the next is not taken, and none is given back
partly : List StatementTree
partly = plainly (reads (scalar one ∷ at tail (scalar one ∷ []) ∷ [])) ∷ []

lines_before_a_fault_stay_read :
    let s = after partly (true ∷ []) (first_state partly (codes "TWO\nSIX\n")) in
    (s.scalars one ≡ 2) × (s.input ≡ codes "SIX\n") × (s.end ≡ Some (faulted Hyperspace 1 []))
unfolding advance partly line_answer first_unknown beginnings begins_word word_at digit_of number_of_words
lines_before_a_fault_stay_read = (refl, refl, refl)

-- the subscript of the second item is what the first item got
line_subscript : List StatementTree
line_subscript =
    plainly (dimension tail (mesh 2 ∷ []))
    ∷ plainly (reads (scalar one ∷ at tail (scalar one ∷ []) ∷ []))
    ∷ plainly (prints (at tail (mesh 2 ∷ []) ∷ []))
    ∷ plainly give_up
    ∷ []

subscript_is_what_the_line_before_gave :
    seen line_subscript (codes "TWO\nSIX\n") 4
    ≡ record { output = printed (numeral_of 6); input = []; end = Some gave_up }
unfolding advance line_subscript line_answer first_unknown beginnings begins_word word_at digit_of number_of_words
subscript_is_what_the_line_before_gave = refl

-- an unknown word after a number that is too large, with other white bytes than a space; the line stays taken
unknown_word_before_too_large :
    seen (plainly (reads (scalar one ∷ [])) ∷ [])
    (codes "\tFOUR\rTWO NINE FOUR NINE SIX SEVEN TWO NINE SIX\tsixty \nONE") 1
    ≡ record { output = []; input = codes "ONE"; end = Some (faulted NoDigit 1 (codes "sixty")) }
unfolding advance line_answer first_unknown beginnings begins_word word_at digit_of number_of_words
unknown_word_before_too_large = refl

too_large_a_line :
    seen (plainly (reads (scalar one ∷ [])) ∷ [])
    (codes "\tFOUR\rTWO NINE FOUR NINE SIX SEVEN TWO NINE SIX\t \nONE") 1
    ≡ record { output = []; input = codes "ONE"; end = Some (faulted SixtyFour 1 []) }
unfolding advance line_answer first_unknown beginnings begins_word word_at digit_of number_of_words
too_large_a_line = refl

greatest_line_is_too_wide_for_a_onespot :
    seen (plainly (reads (scalar one ∷ [])) ∷ []) (codes "FOUR TWO NINE FOUR NINE SIX SEVEN TWO NINE FIVE") 1
    ≡ record { output = []; input = []; end = Some (faulted TooWide 1 []) }
unfolding advance line_answer first_unknown beginnings begins_word word_at digit_of number_of_words
greatest_line_is_too_wide_for_a_onespot = refl

-- STASH and RETRIEVE of an array without dimensions; RETRIEVE list partly done
stash_none : List StatementTree
stash_none =
    plainly (stash (tail ∷ []))
    ∷ plainly (dimension tail (mesh 2 ∷ mesh 2 ∷ []))
    ∷ plainly (retrieve (tail ∷ []))
    ∷ plainly (prints (at tail (mesh 1 ∷ mesh 1 ∷ []) ∷ []))
    ∷ []

no_dimensions_come_back :
    seen stash_none [] 4
    ≡ record { output = []; input = []; end = Some (faulted Hyperspace 4 []) }
unfolding advance stash_none
no_dimensions_come_back = refl

stash_shape : List StatementTree
stash_shape =
    plainly (dimension tail (mesh 2 ∷ mesh 2 ∷ []))
    ∷ plainly (calculate (at tail (mesh 2 ∷ mesh 1 ∷ [])) (mesh 7))
    ∷ plainly (stash (tail ∷ tail ∷ []))
    ∷ plainly (dimension tail (mesh 3 ∷ []))
    ∷ plainly (retrieve (tail ∷ []))
    ∷ plainly (prints (at tail (mesh 2 ∷ mesh 1 ∷ []) ∷ []))
    ∷ plainly (retrieve (tail ∷ tail ∷ []))
    ∷ []

stashed_dimensions_come_back_until_none_is_left :
    seen stash_shape [] 7
    ≡ record { output = printed (numeral_of 7); input = []; end = Some (faulted NothingStashed 7 []) }
unfolding advance stash_shape
stashed_dimensions_come_back_until_none_is_left = refl

-- CALCULATING has dimensions; no gerund has GIVE UP; NOT GIVE UP stays
calculating : List StatementTree
calculating =
    plainly (abstain_kinds (Calculating ∷ []))
    ∷ plainly (dimension tail (mesh 2 ∷ []))
    ∷ plainly (prints (at tail (mesh 1 ∷ []) ∷ []))
    ∷ []

calculating_names_dimensions :
    seen calculating [] 3
    ≡ record { output = []; input = []; end = Some (faulted Hyperspace 3 []) }
unfolding advance calculating
calculating_names_dimensions = refl

gerunds : List Gerund
gerunds =
    Calculating ∷ Nexting ∷ Forgetting ∷ Resuming ∷ Stashing ∷ Retrieving ∷ Ignoring ∷ Remembering
    ∷ Abstaining
    ∷ Reinstating ∷ WritingIn ∷ ReadingOut ∷ []

every_gerund : List StatementTree
every_gerund =
    plainly (abstain_kinds gerunds)
    ∷ plainly (prints (mesh 1 ∷ []))
    ∷ plainly (reinstate_kinds (ReadingOut ∷ []))
    ∷ plainly (prints (mesh 1 ∷ []))
    ∷ plainly (abstain_label 5)
    ∷ labelled 5 give_up
    ∷ []

no_gerund_names_give_up : seen every_gerund [] 6 ≡ record { output = []; input = []; end = Some gave_up }
unfolding advance every_gerund gerunds
no_gerund_names_give_up = refl

give_up_label : List StatementTree
give_up_label = plainly (abstain_label 5) ∷ labelled 5 give_up ∷ []

give_up_is_never_abstained_from : seen give_up_label [] 2 ≡ record { output = []; input = []; end = Some gave_up }
unfolding advance give_up_label
give_up_is_never_abstained_from = refl

not_give_up : List StatementTree
not_give_up = plainly (reinstate_label 5) ∷ record (labelled 5 give_up) { abstained = true } ∷ []

give_up_is_never_reinstated :
    seen not_give_up [] 3
    ≡ record { output = []; input = []; end = Some (faulted OffTheEdge 2 []) }
unfolding advance not_give_up
give_up_is_never_reinstated = refl

-- NEXT from the last statement pushes the place past the end, where RESUME goes
past_the_end : List StatementTree
past_the_end = plainly (next 2) ∷ labelled 2 (resume (mesh 1)) ∷ []

back_to_the_edge : List StatementTree
back_to_the_edge = plainly (next 3) ∷ labelled 2 (resume (mesh 1)) ∷ labelled 3 (next 2) ∷ []

return_past_the_end :
    seen back_to_the_edge [] 4
    ≡ record { output = []; input = []; end = Some (faulted OffTheEdge 3 []) }
unfolding advance back_to_the_edge
return_past_the_end = refl

empty_program_is_off_the_edge : seen [] [] 1
    ≡ record { output = []; input = []; end = Some (faulted OffTheEdge 0 []) }
unfolding advance
empty_program_is_off_the_edge = refl

-- RESUME and FORGET at 79 and 80
resume_of_79 :
    (s : State) → do_resume 79 (record s { returns = replicate 78 1 ++ 7 ∷ [] })
    ≡ done (record s { place = 7; returns = [] })
resume_of_79 s = refl

resume_of_80_is_a_rupture :
    (s : State) → do_resume 80 (record s { returns = replicate 79 1 })
    ≡ faults Rupture [] (record s { returns = replicate 79 1 })
resume_of_80_is_a_rupture s = refl

forget_of_80_drops_all : (s : State) →
    do_forget 80 (record s { returns = replicate 79 1 }) ≡ record s { returns = [] }
forget_of_80_drops_all s = refl

forget_of_none_keeps_all :
    (s : State) → do_forget 0 (record s { returns = replicate 79 1 })
    ≡ record s { returns = replicate 79 1 }
forget_of_none_keeps_all s = refl

forget_of_the_greatest_number_drops_all :
    (s : State) → do_forget 4294967295 (record s { returns = replicate 79 1 })
    ≡ record s { returns = [] }
forget_of_the_greatest_number_drops_all s = refl

-- no choice is asked at an abstained statement, nor at chance 0 or 100
at_chance : Bool → ℕ → List StatementTree
at_chance abstained n = record (plainly (prints (mesh 1 ∷ []))) { abstained = abstained; chance = n } ∷ []

abstained_asks_nothing : ask (at_chance true 50) (first_state (at_chance true 50) []) ≡ plain
unfolding ask at_chance
abstained_asks_nothing = refl

uncertain_asks_a_choice : ask (at_chance false 50) (first_state (at_chance false 50) []) ≡ choice 50
unfolding ask at_chance
uncertain_asks_a_choice = refl

sure_impossible_and_past_the_end_ask_nothing :
    (ask (at_chance false 0) (first_state (at_chance false 0) []) ≡ plain)
    × (ask (at_chance false 100) (first_state (at_chance false 100) []) ≡ plain)
    × (ask [] (first_state [] []) ≡ plain)
unfolding ask at_chance
sure_impossible_and_past_the_end_ask_nothing = (refl, refl, refl)

passed_over_or_done :
    (seen (at_chance true 50) [] 1 ≡ record { output = []; input = []; end = None }) × (seen (at_chance false 0) [] 1
    ≡ record { output = []; input = []; end = None })
    × (seen (at_chance false 1) [] 1 ≡ record { output = printed (numeral_of 1); input = []; end = None })
unfolding advance at_chance
passed_over_or_done = (refl, refl, refl)

sure_is_done_whatever_is_chosen :
    (advance (at_chance false 100) (first_state (at_chance false 100) []) false).output
    ≡ printed (numeral_of 1)
unfolding advance at_chance
sure_is_done_whatever_is_chosen = refl

-- the unary operators in the width of their operand, and a hybrid's element
widths : List StatementTree
widths =
    plainly (dimension hybrid (mesh 1 ∷ []))
    ∷ plainly (calculate (at hybrid (mesh 1 ∷ [])) (mesh 1))
    ∷ plainly (calculate (scalar double) (mesh 1))
    ∷ plainly (calculate (scalar one) (mesh 1))
    ∷ plainly (calculate (scalar double) (unary Or (scalar double)))
    ∷ plainly (prints (scalar double ∷ []))
    ∷ plainly (calculate (scalar double) (unary Xor (at hybrid (mesh 1 ∷ []))))
    ∷ plainly (prints (scalar double ∷ []))
    ∷ plainly (calculate (scalar double) (unary Or (scalar one)))
    ∷ plainly (prints (scalar double ∷ []))
    ∷ plainly give_up
    ∷ []

unary_operators_keep_the_width :
    seen widths [] 11
    ≡ record {
      output = printed (numeral_of 2147483649) ++ printed (numeral_of 2147483649) ++ printed (numeral_of 32769);
      input = [];
      end = Some gave_up;
    }
unfolding advance widths on_one with_neighbours with_bits sum_below
unary_operators_keep_the_width = refl

-- E240 before E241 of a dimension; a list of READ OUT that is partly done
zero_dimension_before_too_many_elements :
    seen (plainly (dimension tail (mesh 65535 ∷ mesh 65535 ∷ mesh 0 ∷ [])) ∷ []) [] 1
    ≡ record { output = []; input = []; end = Some (faulted ZeroDimension 1 []) }
unfolding advance
zero_dimension_before_too_many_elements = refl

items_before_a_fault_are_printed :
    seen (plainly (prints (mesh 1 ∷ at tail (mesh 1 ∷ []) ∷ mesh 2 ∷ [])) ∷ []) [] 1
    ≡ record { output = printed (numeral_of 1); input = []; end = Some (faulted Hyperspace 1 []) }
unfolding advance
items_before_a_fault_are_printed = refl

-- E000 has its text, and the number of its statement
unread : StatementTree
unread = record (plainly give_up) { body = None; text = codes "HELLO" }

unrecognised_has_its_text_and_number :
    seen (plainly (prints (mesh 1 ∷ [])) ∷ unread ∷ []) [] 2
    ≡ record { output = printed (numeral_of 1); input = []; end = Some (faulted Unrecognised 2 (codes "HELLO")) }
unfolding advance unread
unrecognised_has_its_text_and_number = refl
