-- Worked rows, computed from the definitions.
use Rattle.std.proofs.Common.{◌≡◌, true, false, [], ◌∷◌, Some, Ok, Err, refl}
use Rattle.std.specs.Prelude.{codes, replicate}
use Rattle.ick_bits.specs.Operators.{sum_below, with_bits, mingled, ones_below, selected_bits, selected}
use Rattle.ick_bits.specs.Operators.{with_neighbours, unary as on_one}
use Rattle.ick_bits.specs.Digits.{line_answer, first_unknown, beginnings, begins_word, word_at, digit_of}
use Rattle.ick_bits.specs.Digits.{number_of_words}
use Rattle.ick_bits.specs.Values.{Narrow, Wide}
use Rattle.ick_bits.specs.declared.faults.FaultKind.TheVariants.{SixtyFour, Hyperspace, TooWide, ZeroDimension}
use Rattle.ick_bits.specs.declared.faults.FaultKind.TheVariants.{NextDepth, ResumeZero, Rupture, NothingStashed}
use Rattle.ick_bits.specs.declared.faults.FaultKind.TheVariants.{NoInput, NoDigit}
use Rattle.ick_syntax.specs.declared.tree.UnaryOp.TheVariants.{Or}
use Rattle.ick_syntax.specs.declared.tree.BinaryOp.TheVariants.{Mingle, Select}
use Rattle.ick_syntax.specs.Tree.{mesh, scalar, unary, binary}
use Rattle.ick_syntax.specs.StatementTree.{StatementTree}
use Rattle.ick_syntax.specs.BodyTree.{give_up, calculate}
use Rattle.ick_code.specs.meaning.State.{State, with_entry}
use Rattle.ick_code.specs.meaning.Value.{value_of, scalar_value}
use Rattle.ick_code.specs.meaning.Completion.{done, faults}
use Rattle.ick_code.specs.meaning.Store.{store, resize}
use Rattle.ick_code.specs.meaning.Control.{call, resume, forget}
use Rattle.ick_code.specs.meaning.Stash.{stash, retrieve, ignore}
use Rattle.ick_code.specs.meaning.Abstain.{set_abstained}
use Rattle.ick_code.specs.meaning.Do.{do_body}
use Rattle.ick_code.specs.meaning.Move.{first_state}
use Rattle.ick_code.proofs.RowWords.{reads, one, tail, at}

start : State
start = first_state [] []

-- a chain groups from the right: 0 with 1 with 1 is 5
from_the_right : value_of (binary Mingle (mesh 0) (binary Mingle (mesh 1) (mesh 1))) start ≡ Ok (Wide 5)
unfolding mingled with_bits sum_below
from_the_right = refl

-- a number above 65535 can't be mingled
too_long : value_of (binary Mingle (binary Mingle (mesh 65535) (mesh 1)) (mesh 1)) start ≡ Err SixtyFour
unfolding mingled with_bits sum_below
too_long = refl

-- the width of a unary operator is that of its operand, here of what select gives
narrow : value_of (unary Or (binary Select (mesh 1) (mesh 1))) start ≡ Ok (Narrow 32769)
unfolding selected selected_bits ones_below sum_below on_one with_neighbours with_bits
narrow = refl

wide :
    value_of (unary Or (binary Select (mesh 1) (binary Mingle (mesh 65535) (mesh 65535)))) start
    ≡ Ok (Wide 2147483649)
unfolding mingled selected selected_bits ones_below sum_below on_one with_neighbours with_bits
wide = refl

selects : value_of (binary Select (mesh 179) (mesh 201)) start ≡ Ok (Narrow 9)
unfolding selected selected_bits ones_below sum_below
selects = refl

-- an array without dimensions has no element
no_dimensions : value_of (at tail (mesh 1 ∷ [])) start ≡ Err Hyperspace
unfolding start
no_dimensions = refl

-- 65535 is the greatest number of a onespot
fits :
    (s : State) → store one 65535 (record s { ignored = λ _. false })
    ≡ done (record s { ignored = λ _. false; scalars = with_entry s.scalars one 65535 })
fits s = refl

too_wide : (s : State) → store one 65536 s ≡ faults TooWide [] s
too_wide s = refl

no_zero : (s : State) → resize tail (2 ∷ 0 ∷ []) s ≡ faults ZeroDimension [] s
no_zero s = refl

too_many_elements : (s : State) → resize tail (256 ∷ 257 ∷ []) s ≡ faults Hyperspace [] s
too_many_elements s = refl

-- NEXT with 78 returns and with 79
last_return :
    (s : State) → call 5 (record s { returns = replicate 78 1 })
    ≡ done (record s { place = 5; returns = s.place ∷ replicate 78 1 })
last_return s = refl

no_room_for_a_return :
    (s : State) → call 5 (record s { returns = replicate 79 1 })
    ≡ faults NextDepth [] (record s { returns = replicate 79 1 })
no_room_for_a_return s = refl

-- RESUME goes on at the last return popped
resumes :
    (s : State) → resume 2 (record s { returns = 7 ∷ 5 ∷ 3 ∷ [] })
    ≡ done (record s { place = 5; returns = 3 ∷ [] })
resumes s = refl

resumes_none : (s : State) → resume 0 s ≡ faults ResumeZero [] s
resumes_none s = refl

resumes_too_many :
    (s : State) → resume 3 (record s { returns = 7 ∷ 5 ∷ [] })
    ≡ faults Rupture [] (record s { returns = 7 ∷ 5 ∷ [] })
resumes_too_many s = refl

forgets_all : (s : State) → forget 9 (record s { returns = 7 ∷ 5 ∷ [] }) ≡ record s { returns = [] }
forgets_all s = refl

-- an ignored variable's stash is popped, and its value stays
stashed : State
stashed = ignore true one (stash one start)

retrieves_ignored :
    retrieve one stashed
    ≡ done (record stashed { stashed_scalars = with_entry stashed.stashed_scalars one [] })
unfolding stashed start
retrieves_ignored = refl

nothing_stashed : retrieve one start ≡ faults NothingStashed [] start
unfolding start
nothing_stashed = refl

-- a statement that gives up stays as it is
the_end : StatementTree
the_end = record { label = Some 1; polite = true; abstained = true; chance = 100; body = Some give_up; text = [] }

stays_abstained : (s : State) → set_abstained (the_end ∷ []) false 1 s ≡ s
unfolding the_end
stays_abstained s = refl

-- neither does one that isn't there
stays_without_a_statement : (s : State) → set_abstained (the_end ∷ []) true 2 s ≡ s
unfolding the_end
stays_without_a_statement s = refl

-- a narrow variable is loaded in its width, whatever number stands for it
loads_in_its_width : (s : State) → scalar_value one (record s { scalars = λ _. 65543 }) ≡ Narrow 7
loads_in_its_width s = refl

-- WRITE IN looks for the element before it takes its line
no_line_taken :
    (s : State) → do_body [] [] (Some (reads (at tail (mesh 1 ∷ []) ∷ []))) (record start { input = codes "TEN" })
    ≡ faults Hyperspace [] (record start { input = codes "TEN" })
unfolding start
no_line_taken s = refl

no_line_left : do_body [] [] (Some (reads (scalar one ∷ []))) start ≡ faults NoInput [] start
unfolding start
no_line_left = refl

unknown_word :
    do_body [] [] (Some (reads (scalar one ∷ []))) (record start { input = codes "OH TEN" })
    ≡ faults NoDigit (codes "TEN") start
unfolding start line_answer first_unknown beginnings begins_word word_at digit_of number_of_words
unknown_word = refl

-- the right side is evaluated before the subscripts of a target: its fault comes first
right_side_first :
    do_body [] []
    (Some (calculate (at tail (mesh 1 ∷ [])) (binary Mingle (binary Mingle (mesh 65535) (mesh 1)) (mesh 1)))) start
    ≡ faults SixtyFour [] start
unfolding mingled with_bits sum_below
right_side_first = refl
