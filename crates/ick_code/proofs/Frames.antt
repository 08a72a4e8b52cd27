-- A step neither reads nor changes what was written before it: one lemma for each thing that a statement does.
use Rattle.std.proofs.Common.{◌≡◌, ℕ, zero, suc, ◌+◌, ◌==◌, Bool, true, false, if◌then◌else◌}
use Rattle.std.proofs.Common.{List, [], ◌∷◌, ◌++◌, map, length, refl, ap, ◌∙◌, append_assoc}
use Rattle.std.specs.Prelude.{nat_lt, Option, Some, None, Result, Ok, Err, slice_get}
use Rattle.std.specs.List.{list_any}
use Rattle.ick_bits.specs.Values.{number_of}
use Rattle.ick_bits.specs.Digits.{line_answer}
use Rattle.ick_bits.specs.Numeral.{numeral_of, printed}
use Rattle.ick_bits.specs.declared.values.Value.{Value}
use Rattle.ick_bits.specs.declared.digits.DigitFault.{DigitFault}
use Rattle.ick_bits.specs.declared.digits.DigitFault.TheVariants.{Word, TooLarge}
use Rattle.ick_bits.specs.declared.faults.FaultKind.{FaultKind}
use Rattle.ick_syntax.specs.declared.tree.Name.{Name}
use Rattle.ick_syntax.specs.NameKinds.{is_array}
use Rattle.ick_syntax.specs.Tree.{Tree, mesh, scalar, element, unary as applied, binary as joined, Trees, none, more}
use Rattle.ick_syntax.specs.BodyTree.{ItemTree, single, whole, BodyTree, calculate, dimension, next, forget as forget'}
use Rattle.ick_syntax.specs.BodyTree.{resume as resume', stash as stash', retrieve as retrieve', ignore as ignore'}
use Rattle.ick_syntax.specs.BodyTree.{remember, abstain_label, abstain_kinds, reinstate_label, reinstate_kinds, give_up}
use Rattle.ick_syntax.specs.BodyTree.{write_in, read_out}
use Rattle.ick_syntax.specs.StatementTree.{StatementTree}
use Rattle.ick_code.specs.meaning.State.{State, Array, with_entry, statement_at}
use Rattle.ick_code.specs.meaning.Value.{value_of, values_of, and_then, element_value, element_offset, product}
use Rattle.ick_code.specs.meaning.Value.{binary_value, unary_value}
use Rattle.ick_code.specs.meaning.Completion.{Completion, done, faults, then_do, with_value, in_turn}
use Rattle.ick_code.specs.meaning.Store.{set_scalar, set_array, store, store_at, store_within, resize, most_elements}
use Rattle.ick_code.specs.meaning.Store.{zeros, bound_of}
use Rattle.ick_code.specs.meaning.Control.{place_of, call, resume, resume_at, most_returns}
use Rattle.ick_code.specs.meaning.Stash.{stash, retrieve, retrieve_scalar, retrieve_array, ignore}
use Rattle.ick_code.specs.meaning.Abstain.{can_be_set, set_abstained, set_kind_abstained}
use Rattle.ick_code.specs.meaning.InputOutput.{first_line, later_lines, with_number, with_input, read_to, read_within}
use Rattle.ick_code.specs.meaning.InputOutput.{read_at, print}
use Rattle.ick_code.specs.meaning.Tape.{tape_bytes, tape_after, tape_numbers, take_bytes, with_elements, print_array}
use Rattle.ick_code.specs.meaning.Tape.{read_array}
use Rattle.ick_code.specs.meaning.Do.{trees_from, store_to, write_to, read_place, print_item, do_body, ended_by}
use Rattle.ick_code.specs.meaning.Do.{do_statement}
use Rattle.ick_code.specs.meaning.Move.{is_done, meet, advance}
use Rattle.ick_code.specs.Laws.{after_output}

-- what came of doing something, after this output
abbrev framed : List ℕ → Completion → Completion
framed o (done s) = done (after_output o s)
framed o (faults kind subject s) = faults kind subject (after_output o s)

if_state : (o : List ℕ) (t : Bool) (x y x' y' : State) → x' ≡ after_output o x →
    y' ≡ after_output o y → (if t then x' else y') ≡ after_output o (if t then x else y)
if_state o true x y x' y' e f = e
if_state o false x y x' y' e f = f

if_completion : (o : List ℕ) (t : Bool) (x y x' y' : Completion) → x' ≡ framed o x →
    y' ≡ framed o y → (if t then x' else y') ≡ framed o (if t then x else y)
if_completion o true x y x' y' e f = e
if_completion o false x y x' y' e f = f

-- values
and_same : {A B : Type 0} (r r' : Result A FaultKind) (go go' : A → Result B FaultKind) →
    r' ≡ r → ((a : A) → go' a ≡ go a) → and_then r' go' ≡ and_then r go
and_same {A} {B} (Ok a) r' go go' e f = ap (λ x. and_then x go') e ∙ f a
and_same {A} {B} (Err fault) r' go go' e f = ap (λ x. and_then x go') e

mutual
  value_same : (o : List ℕ) (t : Tree) (s : State) → value_of t (after_output o s) ≡ value_of t s
  value_same o (mesh n) s = refl
  value_same o (scalar name) s = refl
  value_same o (element name subs) s =
      ap (λ r. and_then r (λ vs. element_value name (s.arrays name) vs)) (values_same o subs s)
  value_same o (applied op t) s = ap (λ r. and_then r (λ v. Ok (unary_value op v))) (value_same o t s)
  value_same o (joined op a b) s =
      and_same _ _ _ _ (value_same o a s) (λ v. ap (λ r. and_then r (λ w. binary_value op v w)) (value_same o b s))

  values_same : (o : List ℕ) (ts : Trees) (s : State) → values_of ts (after_output o s) ≡ values_of ts s
  values_same o none s = refl
  values_same o (more t ts) s =
      and_same _ _ _ _ (value_same o t s) (λ v. ap (λ r. and_then r (λ vs. Ok (v ∷ vs))) (values_same o ts s))

value_frame : {A : Type 0} (o : List ℕ) (r r' : Result A FaultKind) (s : State) (go go' : A → Completion) →
    r' ≡ r → ((a : A) → go' a ≡ framed o (go a)) →
    with_value r' (after_output o s) go' ≡ framed o (with_value r s go)
value_frame {A} o (Ok a) r' s go go' e f = ap (λ x. with_value x (after_output o s) go') e ∙ f a
value_frame {A} o (Err kind) r' s go go' e f = ap (λ x. with_value x (after_output o s) go') e

then_frame : (o : List ℕ) (x x' : Completion) (go go' : State → Completion) →
    x' ≡ framed o x → ((s : State) → go' (after_output o s) ≡ framed o (go s)) →
    then_do x' go' ≡ framed o (then_do x go)
then_frame o (done s) x' go go' e f = ap (λ y. then_do y go') e ∙ f s
then_frame o (faults kind subject s) x' go go' e f = ap (λ y. then_do y go') e

turn_frame : {A : Type 0} (o : List ℕ) (f : A → State → Completion) → ((a : A) (s : State) →
    f a (after_output o s) ≡ framed o (f a s)) → (xs : List A) (s : State) →
    in_turn f xs (after_output o s) ≡ framed o (in_turn f xs s)
turn_frame {A} o f h [] s = refl
turn_frame {A} o f h (x ∷ xs) s =
    then_frame o (f x s) (f x (after_output o s)) (in_turn f xs) (in_turn f xs) (h x s) (turn_frame o f h xs)

-- stores
scalar_frame : (o : List ℕ) (name : Name) (n : ℕ) (s : State) →
    set_scalar name n (after_output o s) ≡ after_output o (set_scalar name n s)
scalar_frame o name n s = if_state o (s.ignored name) _ _ _ _ refl refl

array_frame : (o : List ℕ) (name : Name) (array : Array) (s : State) →
    set_array name array (after_output o s) ≡ after_output o (set_array name array s)
array_frame o name array s = if_state o (s.ignored name) _ _ _ _ refl refl

store_frame : (o : List ℕ) (name : Name) (n : ℕ) (s : State) →
    store name n (after_output o s) ≡ framed o (store name n s)
store_frame o name n s = if_completion o (nat_lt n (bound_of name.kind)) _ _ _ _ (ap done (scalar_frame o name n s)) refl

within_frame : (o : List ℕ) (name : Name) (place : Option ℕ) (n : ℕ) (s : State) →
    store_within name place n (after_output o s) ≡ framed o (store_within name place n s)
within_frame o name None n s = refl
within_frame o name (Some place) n s =
    if_completion o (nat_lt n (bound_of name.kind)) _ _ _ _ (ap done (array_frame o name _ s)) refl

store_at_frame : (o : List ℕ) (name : Name) (subs : List Value) (n : ℕ) (s : State) →
    store_at name subs n (after_output o s) ≡ framed o (store_at name subs n s)
store_at_frame o name subs n s = within_frame o name (element_offset (s.arrays name) subs) n s

resize_frame : (o : List ℕ) (name : Name) (dimensions : List ℕ) (s : State) →
    resize name dimensions (after_output o s) ≡ framed o (resize name dimensions s)
resize_frame o name dimensions s =
    if_completion o (list_any (λ d. d == 0) dimensions) _ _ _ _ refl
    (if_completion o (nat_lt most_elements (product dimensions)) _ _ _ _ refl
    (ap done (array_frame o name (zeros dimensions) s)))

store_to_frame : (o : List ℕ) (target : Tree) (n : ℕ) (s : State) →
    store_to target n (after_output o s) ≡ framed o (store_to target n s)
store_to_frame o (scalar name) n s = store_frame o name n s
store_to_frame o (element array subs) n s =
    value_frame o _ _ s _ _ (values_same o subs s) (λ vs. store_at_frame o array vs n s)
store_to_frame o (mesh m) n s = refl
store_to_frame o (applied op t) n s = refl
store_to_frame o (joined op a b) n s = refl

-- control
call_frame : (o : List ℕ) (to : ℕ) (s : State) → call to (after_output o s) ≡ framed o (call to s)
call_frame o to s = if_completion o (nat_lt (length s.returns) most_returns) _ _ _ _ refl refl

resume_at_frame : (o : List ℕ) (to : Option ℕ) (n : ℕ) (s : State) →
    resume_at to n (after_output o s) ≡ framed o (resume_at to n s)
resume_at_frame o None n s = refl
resume_at_frame o (Some to) n s = refl

resume_frame : (o : List ℕ) (n : ℕ) (s : State) → resume n (after_output o s) ≡ framed o (resume n s)
resume_frame o zero s = refl
resume_frame o (suc n) s = resume_at_frame o (slice_get s.returns n) (suc n) s

-- stashes
stash_frame : (o : List ℕ) (name : Name) (s : State) →
    stash name (after_output o s) ≡ after_output o (stash name s)
stash_frame o name s = if_state o (is_array name.kind) _ _ _ _ refl refl

retrieve_scalar_frame : (o : List ℕ) (name : Name) (ns : List ℕ) (s : State) →
    retrieve_scalar name ns (after_output o s) ≡ framed o (retrieve_scalar name ns s)
retrieve_scalar_frame o name [] s = refl
retrieve_scalar_frame o name (n ∷ rest) s =
    ap done (scalar_frame o name n (record s { stashed_scalars = with_entry s.stashed_scalars name rest }))

retrieve_array_frame : (o : List ℕ) (name : Name) (arrays : List Array) (s : State) →
    retrieve_array name arrays (after_output o s) ≡ framed o (retrieve_array name arrays s)
retrieve_array_frame o name [] s = refl
retrieve_array_frame o name (array ∷ rest) s =
    ap done (array_frame o name array (record s { stashed_arrays = with_entry s.stashed_arrays name rest }))

retrieve_frame : (o : List ℕ) (name : Name) (s : State) →
    retrieve name (after_output o s) ≡ framed o (retrieve name s)
retrieve_frame o name s =
    if_completion o (is_array name.kind) _ _ _ _ (retrieve_array_frame o name (s.stashed_arrays name) s)
    (retrieve_scalar_frame o name (s.stashed_scalars name) s)

abstained_frame : (o : List ℕ) (program : List StatementTree) (on : Bool) (n : ℕ) (s : State) →
    set_abstained program on n (after_output o s) ≡ after_output o (set_abstained program on n s)
abstained_frame o program on n s =
    if_state o (can_be_set program n) (record s { abstained = λ m. if m == n then on else s.abstained m }) s _ _ refl
    refl

-- input and output
number_frame : (o line : List ℕ) (r : Result ℕ DigitFault) (s : State) (go go' : ℕ → State → Completion) →
    ((n : ℕ) (s : State) → go' n (after_output o s) ≡ framed o (go n s)) →
    with_number line r (after_output o s) go' ≡ framed o (with_number line r s go)
number_frame o line (Ok n) s go go' f = f n s
number_frame o line (Err (Word from to)) s go go' f = refl
number_frame o line (Err TooLarge) s go go' f = refl

input_frame : (o input : List ℕ) (s : State) (go go' : ℕ → State → Completion) → ((n : ℕ) (s : State) →
    go' n (after_output o s) ≡ framed o (go n s)) →
    with_input input (after_output o s) go' ≡ framed o (with_input input s go)
input_frame o [] s go go' f = refl
input_frame o (b ∷ bs) s go go' f =
    number_frame o (first_line (b ∷ bs)) (line_answer (first_line (b ∷ bs)))
    (record s { input = later_lines (b ∷ bs) }) go go' f

read_to_frame : (o : List ℕ) (name : Name) (s : State) →
    read_to name (after_output o s) ≡ framed o (read_to name s)
read_to_frame o name s = input_frame o s.input s _ _ (λ n s. store_frame o name n s)

read_within_frame : (o : List ℕ) (array : Name) (place : Option ℕ) (s : State) →
    read_within array place (after_output o s) ≡ framed o (read_within array place s)
read_within_frame o array None s = refl
read_within_frame o array (Some place) s = input_frame o s.input s _ _ (λ n s. within_frame o array (Some place) n s)

read_at_frame : (o : List ℕ) (array : Name) (subs : List Value) (s : State) →
    read_at array subs (after_output o s) ≡ framed o (read_at array subs s)
read_at_frame o array subs s = read_within_frame o array (element_offset (s.arrays array) subs) s

write_to_frame : (o : List ℕ) (target : Tree) (s : State) →
    write_to target (after_output o s) ≡ framed o (write_to target s)
write_to_frame o (scalar name) s = read_to_frame o name s
write_to_frame o (element array subs) s =
    value_frame o _ _ s _ _ (values_same o subs s) (λ vs. read_at_frame o array vs s)
write_to_frame o (mesh m) s = refl
write_to_frame o (applied op t) s = refl
write_to_frame o (joined op a b) s = refl

print_frame : (o : List ℕ) (n : ℕ) (s : State) → print n (after_output o s) ≡ after_output o (print n s)
print_frame o n s = ap (λ x. record s { output = x }) (append_assoc o s.output (printed (numeral_of n)))

-- arrays as bytes
printed_frame : (o : List ℕ) (s : State) (elements : List ℕ) →
    record (after_output o s) {
      output = (o ++ s.output) ++ tape_bytes s.last elements;
      last = tape_after s.last elements;
    }
    ≡ after_output o (record s { output = s.output ++ tape_bytes s.last elements; last = tape_after s.last elements })
printed_frame o s elements =
    ap (λ x. record s { output = x; last = tape_after s.last elements })
    (append_assoc o s.output (tape_bytes s.last elements))

print_array_frame : (o : List ℕ) (array : Name) (s : State) →
    print_array array (after_output o s) ≡ framed o (print_array array s)
print_array_frame o array s =
    if_completion o (length (s.arrays array).dimensions == 1) _ _ _ _
    (ap done (printed_frame o s (s.arrays array).elements)) refl

read_array_frame : (o : List ℕ) (array : Name) (s : State) →
    read_array array (after_output o s) ≡ framed o (read_array array s)
read_array_frame o array s =
    let count = length (s.arrays array).elements in
    let filled = with_elements (s.arrays array) (tape_numbers count s.lastin s.input) in
    if_completion o (length (s.arrays array).dimensions == 1) _ _ _ _
    (ap done (array_frame o array filled (take_bytes count s))) refl

read_place_frame : (o : List ℕ) (place : ItemTree) (s : State) →
    read_place place (after_output o s) ≡ framed o (read_place place s)
read_place_frame o (single target) s = write_to_frame o target s
read_place_frame o (whole array) s = read_array_frame o array s

item_frame : (o : List ℕ) (item : ItemTree) (s : State) →
    print_item item (after_output o s) ≡ framed o (print_item item s)
item_frame o (single t) s = value_frame o _ _ s _ _ (value_same o t s) (λ v. ap done (print_frame o (number_of v) s))
item_frame o (whole array) s = print_array_frame o array s

body_frame : (o : List ℕ) (program : List StatementTree) (text : List ℕ) (body : Option BodyTree) (s : State) →
    do_body program text body (after_output o s) ≡ framed o (do_body program text body s)
body_frame o program text None s = refl
body_frame o program text (Some (calculate target e)) s =
    value_frame o _ _ s _ _ (value_same o e s) (λ v. store_to_frame o target (number_of v) s)
body_frame o program text (Some (dimension array es)) s =
    value_frame o _ _ s _ _ (values_same o (trees_from es) s) (λ vs. resize_frame o array (map number_of vs) s)
body_frame o program text (Some (next label)) s = call_frame o (place_of label program) s
body_frame o program text (Some (forget' e)) s = value_frame o _ _ s _ _ (value_same o e s) (λ v. refl)
body_frame o program text (Some (resume' e)) s =
    value_frame o _ _ s _ _ (value_same o e s) (λ v. resume_frame o (number_of v) s)
body_frame o program text (Some (stash' names)) s =
    turn_frame o (λ name s. done (stash name s)) (λ name s. ap done (stash_frame o name s)) names s
body_frame o program text (Some (retrieve' names)) s = turn_frame o _ (λ name s. retrieve_frame o name s) names s
body_frame o program text (Some (ignore' names)) s =
    turn_frame o (λ name s. done (ignore true name s)) (λ name s. refl) names s
body_frame o program text (Some (remember names)) s =
    turn_frame o (λ name s. done (ignore false name s)) (λ name s. refl) names s
body_frame o program text (Some (abstain_label label)) s =
    ap done (abstained_frame o program true (place_of label program) s)
body_frame o program text (Some (abstain_kinds gerunds)) s =
    turn_frame o (λ g s. done (set_kind_abstained program true g s)) (λ g s. refl) gerunds s
body_frame o program text (Some (reinstate_label label)) s =
    ap done (abstained_frame o program false (place_of label program) s)
body_frame o program text (Some (reinstate_kinds gerunds)) s =
    turn_frame o (λ g s. done (set_kind_abstained program false g s)) (λ g s. refl) gerunds s
body_frame o program text (Some give_up) s = refl
body_frame o program text (Some (write_in places)) s = turn_frame o _ (λ t s. read_place_frame o t s) places s
body_frame o program text (Some (read_out items)) s = turn_frame o _ (λ t s. item_frame o t s) items s

ended_frame : (o : List ℕ) (n : ℕ) (x : Completion) → ended_by n (framed o x) ≡ after_output o (ended_by n x)
ended_frame o n (done s) = refl
ended_frame o n (faults kind subject s) = refl

statement_frame : (o : List ℕ) (program : List StatementTree) (statement : StatementTree) (s : State) →
    do_statement program statement (after_output o s) ≡ after_output o (do_statement program statement s)
statement_frame o program statement s =
    ap (ended_by s.place) (body_frame o program statement.text statement.body (record s { place = s.place + 1 }))
    ∙ ended_frame o s.place (do_body program statement.text statement.body (record s { place = s.place + 1 }))

meet_frame : (o : List ℕ) (program : List StatementTree) (found : Option StatementTree) (s : State)
    (chosen : Bool) → meet program found (after_output o s) chosen ≡ after_output o (meet program found s chosen)
meet_frame o program None s chosen = refl
meet_frame o program (Some statement) s chosen =
    if_state o (is_done statement (s.abstained s.place) chosen) _ _ _ _ (statement_frame o program statement s) refl

pub advance_frame : (program : List StatementTree) (s : State) (chosen : Bool) (o : List ℕ) →
    advance program (after_output o s) chosen ≡ after_output o (advance program s chosen)
unfolding advance
advance_frame program s chosen o = meet_frame o program (statement_at program s.place) s chosen
