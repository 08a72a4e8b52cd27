-- Proves that a step reads what was written before it, and the place on the tape of output, only to print: one lemma
-- for each thing that a statement does. So the runs of a program whose output is left out are its runs without output.
use Rattle.std.proofs.Common.{◌≡◌, ℕ, zero, suc, ◌+◌, ◌*◌, ◌==◌, Bool, true, false, if◌then◌else◌}
use Rattle.std.proofs.Common.{List, [], ◌∷◌, ◌++◌, map, length, refl, ap, sym, ◌∙◌}
use Rattle.std.specs.Prelude.{nat_lt, Option, Some, None, Result, Ok, Err, slice_get}
use Rattle.std.specs.List.{list_any}
use Rattle.ick_bits.specs.Values.{number_of}
use Rattle.ick_bits.specs.Digits.{line_answer}
use Rattle.ick_bits.specs.Numeral.{numeral_of, printed}
use Rattle.ick_bits.specs.declared.values.Value.{Value}
use Rattle.ick_bits.specs.declared.digits.DigitFault.{DigitFault}
use Rattle.ick_bits.specs.declared.digits.DigitFault.TheVariants.{Word, TooLarge}
use Rattle.ick_bits.specs.declared.faults.FaultKind.{FaultKind}
use Rattle.ick_bits.specs.declared.faults.FaultKind.TheVariants.{Hyperspace}
use Rattle.ick_syntax.specs.declared.tree.Name.{Name}
use Rattle.ick_syntax.specs.NameKinds.{is_array}
use Rattle.ick_syntax.specs.Tree.{Tree, mesh, scalar, element, unary as applied, binary as joined, Trees, none, more}
use Rattle.ick_syntax.specs.BodyTree.{ItemTree, single, whole, BodyTree, calculate, dimension, next, forget as forget'}
use Rattle.ick_syntax.specs.BodyTree.{resume as resume', stash as stash', retrieve as retrieve', ignore as ignore'}
use Rattle.ick_syntax.specs.BodyTree.{remember, abstain_label, abstain_kinds, reinstate_label, reinstate_kinds, give_up}
use Rattle.ick_syntax.specs.BodyTree.{write_in, read_out}
use Rattle.ick_syntax.specs.StatementTree.{StatementTree}
use Rattle.ick_code.specs.meaning.State.{State, Array, with_entry, statement_at}
use Rattle.ick_code.specs.meaning.Value.{value_of, values_of, and_then, element_value, element_offset, product}
use Rattle.ick_code.specs.meaning.Value.{binary_value, unary_value}
use Rattle.ick_code.specs.meaning.Completion.{Completion, done, faults, then_do, with_value, in_turn}
use Rattle.ick_code.specs.meaning.Store.{set_scalar, set_array, store, store_at, store_within, resize, most_elements}
use Rattle.ick_code.specs.meaning.Store.{zeros, bound_of}
use Rattle.ick_code.specs.meaning.Control.{place_of, call, resume, resume_at, most_returns}
use Rattle.ick_code.specs.meaning.Stash.{stash, retrieve, retrieve_scalar, retrieve_array, ignore}
use Rattle.ick_code.specs.meaning.Abstain.{can_be_set, set_abstained, set_kind_abstained}
use Rattle.ick_code.specs.meaning.InputOutput.{first_line, later_lines, with_number, with_input, read_to, read_within}
use Rattle.ick_code.specs.meaning.InputOutput.{read_at, print}
use Rattle.ick_code.specs.meaning.Tape.{tape_bytes, tape_after, tape_numbers, take_bytes, with_elements}
use Rattle.ick_code.specs.meaning.Tape.{read_array}
use Rattle.ick_code.specs.meaning.Do.{trees_from, store_to, write_to, read_place, print_item, do_body, ended_by}
use Rattle.ick_code.specs.meaning.Do.{do_statement}
use Rattle.ick_code.specs.meaning.Move.{Asking, plain, choice, ended, ask as asks, is_done, meet, advance as step}
use Rattle.ick_code.proofs.AskLaws.{ask_same}
use Rattle.ick_backtrack.specs.Steps.{after_steps as spoken_steps, IsPlain as SpokenPlain, RunsOn as SpokenRuns}
use Rattle.ick_explorer.specs.Runs.{Execution, run as spoken_run, run_at_limit, run_on, stepped}
use Rattle.ick_outcomes.specs.Programs.{Program, advance, after_steps, ask, heard, hushed, run, spoken, RunsOn}
use Rattle.ick_outcomes.specs.Weights.{part, share, share_on}

-- what was written, and the place on the tape of output
record Tape : Type 0 where
  output : List ℕ
  last : ℕ

-- a state with another tape
abbrev at_tape : Tape → State → State
at_tape o s = record s { output = o.output; last = o.last }

-- what came of doing something, with another tape
abbrev framed : Tape → Completion → Completion
framed o (done s) = done (at_tape o s)
framed o (faults kind subject s) = faults kind subject (at_tape o s)

if_state : (o : Tape) (t : Bool) (x y x' y' : State) → x' ≡ at_tape o x →
    y' ≡ at_tape o y → (if t then x' else y') ≡ at_tape o (if t then x else y)
if_state o true x y x' y' e f = e
if_state o false x y x' y' e f = f

if_completion : (o : Tape) (t : Bool) (x y x' y' : Completion) → x' ≡ framed o x →
    y' ≡ framed o y → (if t then x' else y') ≡ framed o (if t then x else y)
if_completion o true x y x' y' e f = e
if_completion o false x y x' y' e f = f

-- values
and_same : {A B : Type 0} (r r' : Result A FaultKind) (go go' : A → Result B FaultKind) →
    r' ≡ r → ((a : A) → go' a ≡ go a) → and_then r' go' ≡ and_then r go
and_same {A} {B} (Ok a) r' go go' e f = ap (λ x. and_then x go') e ∙ f a
and_same {A} {B} (Err fault) r' go go' e f = ap (λ x. and_then x go') e

mutual
  value_same : (o : Tape) (t : Tree) (s : State) → value_of t (at_tape o s) ≡ value_of t s
  value_same o (mesh n) s = refl
  value_same o (scalar name) s = refl
  value_same o (element name subs) s =
      ap (λ r. and_then r (λ vs. element_value name (s.arrays name) vs)) (values_same o subs s)
  value_same o (applied op t) s = ap (λ r. and_then r (λ v. Ok (unary_value op v))) (value_same o t s)
  value_same o (joined op a b) s =
      and_same _ _ _ _ (value_same o a s) (λ v. ap (λ r. and_then r (λ w. binary_value op v w)) (value_same o b s))

  values_same : (o : Tape) (ts : Trees) (s : State) → values_of ts (at_tape o s) ≡ values_of ts s
  values_same o none s = refl
  values_same o (more t ts) s =
      and_same _ _ _ _ (value_same o t s) (λ v. ap (λ r. and_then r (λ vs. Ok (v ∷ vs))) (values_same o ts s))

value_frame : {A : Type 0} (o : Tape) (r r' : Result A FaultKind) (s : State) (go go' : A → Completion) →
    r' ≡ r → ((a : A) → go' a ≡ framed o (go a)) →
    with_value r' (at_tape o s) go' ≡ framed o (with_value r s go)
value_frame {A} o (Ok a) r' s go go' e f = ap (λ x. with_value x (at_tape o s) go') e ∙ f a
value_frame {A} o (Err kind) r' s go go' e f = ap (λ x. with_value x (at_tape o s) go') e

then_frame : (o : Tape) (x x' : Completion) (go go' : State → Completion) →
    x' ≡ framed o x → ((s : State) → go' (at_tape o s) ≡ framed o (go s)) →
    then_do x' go' ≡ framed o (then_do x go)
then_frame o (done s) x' go go' e f = ap (λ y. then_do y go') e ∙ f s
then_frame o (faults kind subject s) x' go go' e f = ap (λ y. then_do y go') e

turn_frame : {A : Type 0} (o : Tape) (f : A → State → Completion) → ((a : A) (s : State) →
    f a (at_tape o s) ≡ framed o (f a s)) → (xs : List A) (s : State) →
    in_turn f xs (at_tape o s) ≡ framed o (in_turn f xs s)
turn_frame {A} o f h [] s = refl
turn_frame {A} o f h (x ∷ xs) s =
    then_frame o (f x s) (f x (at_tape o s)) (in_turn f xs) (in_turn f xs) (h x s) (turn_frame o f h xs)

-- stores
scalar_frame : (o : Tape) (name : Name) (n : ℕ) (s : State) →
    set_scalar name n (at_tape o s) ≡ at_tape o (set_scalar name n s)
scalar_frame o name n s = if_state o (s.ignored name) _ _ _ _ refl refl

array_frame : (o : Tape) (name : Name) (array : Array) (s : State) →
    set_array name array (at_tape o s) ≡ at_tape o (set_array name array s)
array_frame o name array s = if_state o (s.ignored name) _ _ _ _ refl refl

store_frame : (o : Tape) (name : Name) (n : ℕ) (s : State) →
    store name n (at_tape o s) ≡ framed o (store name n s)
store_frame o name n s = if_completion o (nat_lt n (bound_of name.kind)) _ _ _ _ (ap done (scalar_frame o name n s)) refl

within_frame : (o : Tape) (name : Name) (place : Option ℕ) (n : ℕ) (s : State) →
    store_within name place n (at_tape o s) ≡ framed o (store_within name place n s)
within_frame o name None n s = refl
within_frame o name (Some place) n s =
    if_completion o (nat_lt n (bound_of name.kind)) _ _ _ _ (ap done (array_frame o name _ s)) refl

store_at_frame : (o : Tape) (name : Name) (subs : List Value) (n : ℕ) (s : State) →
    store_at name subs n (at_tape o s) ≡ framed o (store_at name subs n s)
store_at_frame o name subs n s = within_frame o name (element_offset (s.arrays name) subs) n s

resize_frame : (o : Tape) (name : Name) (dimensions : List ℕ) (s : State) →
    resize name dimensions (at_tape o s) ≡ framed o (resize name dimensions s)
resize_frame o name dimensions s =
    if_completion o (list_any (λ d. d == 0) dimensions) _ _ _ _ refl
    (if_completion o (nat_lt most_elements (product dimensions)) _ _ _ _ refl
    (ap done (array_frame o name (zeros dimensions) s)))

store_to_frame : (o : Tape) (target : Tree) (n : ℕ) (s : State) →
    store_to target n (at_tape o s) ≡ framed o (store_to target n s)
store_to_frame o (scalar name) n s = store_frame o name n s
store_to_frame o (element array subs) n s =
    value_frame o _ _ s _ _ (values_same o subs s) (λ vs. store_at_frame o array vs n s)
store_to_frame o (mesh m) n s = refl
store_to_frame o (applied op t) n s = refl
store_to_frame o (joined op a b) n s = refl

-- control
call_frame : (o : Tape) (to : ℕ) (s : State) → call to (at_tape o s) ≡ framed o (call to s)
call_frame o to s = if_completion o (nat_lt (length s.returns) most_returns) _ _ _ _ refl refl

resume_at_frame : (o : Tape) (to : Option ℕ) (n : ℕ) (s : State) →
    resume_at to n (at_tape o s) ≡ framed o (resume_at to n s)
resume_at_frame o None n s = refl
resume_at_frame o (Some to) n s = refl

resume_frame : (o : Tape) (n : ℕ) (s : State) → resume n (at_tape o s) ≡ framed o (resume n s)
resume_frame o zero s = refl
resume_frame o (suc n) s = resume_at_frame o (slice_get s.returns n) (suc n) s

-- stashes
stash_frame : (o : Tape) (name : Name) (s : State) →
    stash name (at_tape o s) ≡ at_tape o (stash name s)
stash_frame o name s = if_state o (is_array name.kind) _ _ _ _ refl refl

retrieve_scalar_frame : (o : Tape) (name : Name) (ns : List ℕ) (s : State) →
    retrieve_scalar name ns (at_tape o s) ≡ framed o (retrieve_scalar name ns s)
retrieve_scalar_frame o name [] s = refl
retrieve_scalar_frame o name (n ∷ rest) s =
    ap done (scalar_frame o name n (record s { stashed_scalars = with_entry s.stashed_scalars name rest }))

retrieve_array_frame : (o : Tape) (name : Name) (arrays : List Array) (s : State) →
    retrieve_array name arrays (at_tape o s) ≡ framed o (retrieve_array name arrays s)
retrieve_array_frame o name [] s = refl
retrieve_array_frame o name (array ∷ rest) s =
    ap done (array_frame o name array (record s { stashed_arrays = with_entry s.stashed_arrays name rest }))

retrieve_frame : (o : Tape) (name : Name) (s : State) →
    retrieve name (at_tape o s) ≡ framed o (retrieve name s)
retrieve_frame o name s =
    if_completion o (is_array name.kind) _ _ _ _ (retrieve_array_frame o name (s.stashed_arrays name) s)
    (retrieve_scalar_frame o name (s.stashed_scalars name) s)

abstained_frame : (o : Tape) (program : List StatementTree) (on : Bool) (n : ℕ) (s : State) →
    set_abstained program on n (at_tape o s) ≡ at_tape o (set_abstained program on n s)
abstained_frame o program on n s =
    if_state o (can_be_set program n) (record s { abstained = λ m. if m == n then on else s.abstained m }) s _ _ refl
    refl

-- input and output
number_frame : (o : Tape) (line : List ℕ) (r : Result ℕ DigitFault) (s : State) (go go' : ℕ → State → Completion) →
    ((n : ℕ) (s : State) → go' n (at_tape o s) ≡ framed o (go n s)) →
    with_number line r (at_tape o s) go' ≡ framed o (with_number line r s go)
number_frame o line (Ok n) s go go' f = f n s
number_frame o line (Err (Word from to)) s go go' f = refl
number_frame o line (Err TooLarge) s go go' f = refl

input_frame : (o : Tape) (input : List ℕ) (s : State) (go go' : ℕ → State → Completion) → ((n : ℕ) (s : State) →
    go' n (at_tape o s) ≡ framed o (go n s)) →
    with_input input (at_tape o s) go' ≡ framed o (with_input input s go)
input_frame o [] s go go' f = refl
input_frame o (b ∷ bs) s go go' f =
    number_frame o (first_line (b ∷ bs)) (line_answer (first_line (b ∷ bs)))
    (record s { input = later_lines (b ∷ bs) }) go go' f

read_to_frame : (o : Tape) (name : Name) (s : State) →
    read_to name (at_tape o s) ≡ framed o (read_to name s)
read_to_frame o name s = input_frame o s.input s _ _ (λ n s. store_frame o name n s)

read_within_frame : (o : Tape) (array : Name) (place : Option ℕ) (s : State) →
    read_within array place (at_tape o s) ≡ framed o (read_within array place s)
read_within_frame o array None s = refl
read_within_frame o array (Some place) s = input_frame o s.input s _ _ (λ n s. within_frame o array (Some place) n s)

read_at_frame : (o : Tape) (array : Name) (subs : List Value) (s : State) →
    read_at array subs (at_tape o s) ≡ framed o (read_at array subs s)
read_at_frame o array subs s = read_within_frame o array (element_offset (s.arrays array) subs) s

write_to_frame : (o : Tape) (target : Tree) (s : State) →
    write_to target (at_tape o s) ≡ framed o (write_to target s)
write_to_frame o (scalar name) s = read_to_frame o name s
write_to_frame o (element array subs) s =
    value_frame o _ _ s _ _ (values_same o subs s) (λ vs. read_at_frame o array vs s)
write_to_frame o (mesh m) s = refl
write_to_frame o (applied op t) s = refl
write_to_frame o (joined op a b) s = refl

read_array_frame : (o : Tape) (array : Name) (s : State) →
    read_array array (at_tape o s) ≡ framed o (read_array array s)
read_array_frame o array s =
    let count = length (s.arrays array).elements in
    let filled = with_elements (s.arrays array) (tape_numbers count s.lastin s.input) in
    if_completion o (length (s.arrays array).dimensions == 1) _ _ _ _
    (ap done (array_frame o array filled (take_bytes count s))) refl

read_place_frame : (o : Tape) (place : ItemTree) (s : State) →
    read_place place (at_tape o s) ≡ framed o (read_place place s)
read_place_frame o (single target) s = write_to_frame o target s
read_place_frame o (whole array) s = read_array_frame o array s

-- what may print leaves the same state but for the tape
abbrev Frames : Completion → Completion → Type 0
Frames x x' = (o : Tape) × (x' ≡ framed o x)

then_prints : (x x' : Completion) (go : State → Completion) → Frames x x' →
    ((o : Tape) (s : State) → Frames (go s) (go (at_tape o s))) → Frames (then_do x go) (then_do x' go)
then_prints (done s) x' go e f = let r = f e.0 s in (r.0, ap (λ y. then_do y go) e.1 ∙ r.1)
then_prints (faults kind subject s) x' go e f = (e.0, ap (λ y. then_do y go) e.1)

turn_prints : {A : Type 0} (f : A → State → Completion) → ((a : A) (o : Tape) (s : State) →
    Frames (f a s) (f a (at_tape o s))) → (xs : List A) (o : Tape) (s : State) →
    Frames (in_turn f xs s) (in_turn f xs (at_tape o s))
turn_prints {A} f h [] o s = (o, refl)
turn_prints {A} f h (x ∷ xs) o s =
    then_prints (f x s) (f x (at_tape o s)) (in_turn f xs) (h x o s) (turn_prints f h xs)

number_prints : (o : Tape) (r r' : Result Value FaultKind) (s : State) → r' ≡ r →
    Frames (with_value r s (λ v. done (print (number_of v) s)))
    (with_value r' (at_tape o s) (λ v. done (print (number_of v) (at_tape o s))))
number_prints o (Ok v) r' s e = (
  record { output = o.output ++ printed (numeral_of (number_of v)); last = o.last },
  ap (λ x. with_value x (at_tape o s) (λ v. done (print (number_of v) (at_tape o s)))) e,
)
number_prints o (Err kind) r' s e =
    (o, ap (λ x. with_value x (at_tape o s) (λ v. done (print (number_of v) (at_tape o s)))) e)

array_prints : (o : Tape) (elements : List ℕ) (s : State) (b : Bool) →
    Frames (if b then done (record s {
      output = s.output ++ tape_bytes s.last elements;
      last = tape_after s.last elements;
    }) else faults Hyperspace [] s)
    (if b then done (record s {
      output = o.output ++ tape_bytes o.last elements;
      last = tape_after o.last elements;
    }) else faults Hyperspace [] (at_tape o s))
array_prints o elements s true =
    (record { output = o.output ++ tape_bytes o.last elements; last = tape_after o.last elements }, refl)
array_prints o elements s false = (o, refl)

item_prints : (item : ItemTree) (o : Tape) (s : State) → Frames (print_item item s) (print_item item (at_tape o s))
item_prints (single t) o s = number_prints o (value_of t s) (value_of t (at_tape o s)) s (value_same o t s)
item_prints (whole array) o s =
    array_prints o (s.arrays array).elements s (length (s.arrays array).dimensions == 1)

body_prints : (program : List StatementTree) (text : List ℕ) (body : Option BodyTree) (o : Tape) (s : State) →
    Frames (do_body program text body s) (do_body program text body (at_tape o s))
body_prints program text None o s =
    (o, refl)
body_prints program text (Some (calculate target e)) o s =
    (o, value_frame o _ _ s _ _ (value_same o e s) (λ v. store_to_frame o target (number_of v) s))
body_prints program text (Some (dimension array es)) o s =
    (o, value_frame o _ _ s _ _ (values_same o (trees_from es) s) (λ vs. resize_frame o array (map number_of vs) s))
body_prints program text (Some (next label)) o s =
    (o, call_frame o (place_of label program) s)
body_prints program text (Some (forget' e)) o s =
    (o, value_frame o _ _ s _ _ (value_same o e s) (λ v. refl))
body_prints program text (Some (resume' e)) o s =
    (o, value_frame o _ _ s _ _ (value_same o e s) (λ v. resume_frame o (number_of v) s))
body_prints program text (Some (stash' names)) o s =
    (o, turn_frame o (λ name s. done (stash name s)) (λ name s. ap done (stash_frame o name s)) names s)
body_prints program text (Some (retrieve' names)) o s =
    (o, turn_frame o _ (λ name s. retrieve_frame o name s) names s)
body_prints program text (Some (ignore' names)) o s =
    (o, turn_frame o (λ name s. done (ignore true name s)) (λ name s. refl) names s)
body_prints program text (Some (remember names)) o s =
    (o, turn_frame o (λ name s. done (ignore false name s)) (λ name s. refl) names s)
body_prints program text (Some (abstain_label label)) o s =
    (o, ap done (abstained_frame o program true (place_of label program) s))
body_prints program text (Some (abstain_kinds gerunds)) o s =
    (o, turn_frame o (λ g s. done (set_kind_abstained program true g s)) (λ g s. refl) gerunds s)
body_prints program text (Some (reinstate_label label)) o s =
    (o, ap done (abstained_frame o program false (place_of label program) s))
body_prints program text (Some (reinstate_kinds gerunds)) o s =
    (o, turn_frame o (λ g s. done (set_kind_abstained program false g s)) (λ g s. refl) gerunds s)
body_prints program text (Some give_up) o s =
    (o, refl)
body_prints program text (Some (write_in places)) o s =
    (o, turn_frame o _ (λ t s. read_place_frame o t s) places s)
body_prints program text (Some (read_out items)) o s = turn_prints print_item item_prints items o s

ended_frame : (o : Tape) (n : ℕ) (x : Completion) → ended_by n (framed o x) ≡ at_tape o (ended_by n x)
ended_frame o n (done s) = refl
ended_frame o n (faults kind subject s) = refl

-- the same state but for the tape
abbrev Alike : State → State → Type 0
Alike s s' = (o : Tape) × (s' ≡ at_tape o s)

statement_prints : (program : List StatementTree) (statement : StatementTree) (o : Tape) (s : State) →
    Alike (do_statement program statement s) (do_statement program statement (at_tape o s))
statement_prints program statement o s =
    let r = body_prints program statement.text statement.body o (record s { place = s.place + 1 }) in (
      r.0,
      ap (ended_by s.place) r.1
          ∙ ended_frame r.0 s.place (do_body program statement.text statement.body (record s { place = s.place + 1 })),
    )

if_alike : (b : Bool) (x y x' y' : State) → Alike x x' → Alike y y' →
    Alike (if b then x else y) (if b then x' else y')
if_alike true x y x' y' h k = h
if_alike false x y x' y' h k = k

meet_prints : (program : List StatementTree) (found : Option StatementTree) (s : State) (chosen : Bool) (o : Tape) →
    Alike (meet program found s chosen) (meet program found (at_tape o s) chosen)
meet_prints program None s chosen o = (o, refl)
meet_prints program (Some statement) s chosen o =
    if_alike (is_done statement (s.abstained s.place) chosen) _ _ _ _ (statement_prints program statement o s) (o, refl)

step_prints : (program : List StatementTree) (s : State) (chosen : Bool) (o : Tape) →
    Alike (step program s chosen) (step program (at_tape o s) chosen)
unfolding step
step_prints program s chosen o = meet_prints program (statement_at program s.place) s chosen o

-- a step of a state without output
pub hushed_step : (silent : Bool) (program : List StatementTree) (s : State) (b : Bool) →
    hushed silent (step program (hushed silent s) b) ≡ hushed silent (step program s b)
hushed_step false program s b = refl
hushed_step true program s b =
    ap (hushed true) (step_prints program s b (record { output = []; last = 0 })).1

pub hushed_twice : (silent : Bool) (s : State) → hushed silent (hushed silent s) ≡ hushed silent s
hushed_twice false s = refl
hushed_twice true s = refl

pub hushed_asks : (silent : Bool) (program : List StatementTree) (s : State) →
    asks program (hushed silent s) ≡ asks program s
hushed_asks false program s = refl
hushed_asks true program s = ask_same program s (hushed true s) refl refl refl

module _ (p : Program) where
  abbrev quiet : State → State
  quiet s = hushed p.silent s

  pub ask_quiet : (s : State) → ask p (quiet s) ≡ asks p.statements s
  unfolding ask
  ask_quiet s = hushed_asks p.silent p.statements s

  pub advance_quiet : (s : State) (b : Bool) → advance p (quiet s) b ≡ quiet (step p.statements s b)
  unfolding advance
  advance_quiet s b = hushed_step p.silent p.statements s b

  -- steps one after another
  pub steps_quiet : (s : State) (k : ℕ) → after_steps p (quiet s) k ≡ quiet (spoken_steps p.statements s k)
  steps_quiet s zero = refl
  steps_quiet s (suc k) =
      ap (λ t. advance p t false) (steps_quiet s k) ∙ advance_quiet (spoken_steps p.statements s k) false

  pub plain_quiet : (s : State) (k : ℕ) (t : State) → SpokenRuns SpokenPlain p.statements s k t →
      RunsOn p (quiet s) k (quiet t)
  plain_quiet s k t r = record {
    leads = ap quiet r.leads ∙ sym (steps_quiet s k);
    on = λ i lt. ap (ask p) (steps_quiet s i) ∙ (ask_quiet (spoken_steps p.statements s i) ∙ r.on i lt);
  }

  limit_heard : (a : Asking) (s : State) (c : List Bool) →
      run_at_limit a (quiet s) c ≡ heard p.silent (run_at_limit a s c)
  limit_heard (ended e) s c = refl
  limit_heard plain s c = refl
  limit_heard (choice k) s c = refl

  on_heard : (a : Asking) (s : State) (c : List Bool) (go go' : Bool → List Bool → Execution) →
      ((b : Bool) (d : List Bool) → go b d ≡ heard p.silent (go' b d)) →
      run_on a (quiet s) c go ≡ heard p.silent (run_on a s c go')
  on_heard (ended e) s c go go' f = refl
  on_heard plain s c go go' f = ap stepped (f false c)
  on_heard (choice k) s [] go go' f = refl
  on_heard (choice k) s (b ∷ c) go go' f = ap stepped (f b c)

  -- the run is that with output, but for the output
  pub run_heard : (s : State) (l : ℕ) (c : List Bool) →
      run p (quiet s) l c ≡ heard p.silent (spoken_run p.statements s l c)
  unfolding run spoken_run
  run_heard s zero c =
      ap (λ a. run_at_limit a (quiet s) c) (ask_quiet s) ∙ limit_heard (asks p.statements s) s c
  run_heard s (suc l) c =
      ap (λ a. run_on a (quiet s) c (λ b rest. run p (advance p (quiet s) b) l rest)) (ask_quiet s)
      ∙ on_heard (asks p.statements s) s c (λ b rest. run p (advance p (quiet s) b) l rest)
      (λ b rest. spoken_run p.statements (step p.statements s b) l rest)
      (λ b d. ap (λ t. run p t l d) (advance_quiet s b) ∙ run_heard (step p.statements s b) l d)

  share_on_heard : (a : Asking) (l : ℕ) (c : List Bool) (go go' : Bool → List Bool → ℕ) →
      ((b : Bool) (d : List Bool) → go b d ≡ go' b d) → share_on a l c go ≡ share_on a l c go'
  share_on_heard (ended e) l c go go' f = refl
  share_on_heard plain l c go go' f = ap (λ n. 100 * n) (f false c)
  share_on_heard (choice k) l [] go go' f = refl
  share_on_heard (choice k) l (b ∷ c) go go' f = ap (λ n. part k b * n) (f b c)

  -- and it weighs the same
  pub share_heard : (s : State) (l : ℕ) (c : List Bool) → share p (quiet s) l c ≡ share (spoken p.statements) s l c
  unfolding share ask advance
  share_heard s zero c = refl
  share_heard s (suc l) c =
      ap (λ a. share_on a l c (λ b rest. share p (advance p (quiet s) b) l rest)) (ask_quiet s)
      ∙ share_on_heard (asks p.statements s) l c (λ b rest. share p (advance p (quiet s) b) l rest)
      (λ b rest. share (spoken p.statements) (step p.statements s b) l rest)
      (λ b d. ap (λ t. share p t l d) (advance_quiet s b) ∙ share_heard (step p.statements s b) l d)
