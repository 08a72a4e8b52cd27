-- Texts of numbers, variables and states, piece by piece.
use Rattle.std.proofs.Common.{Some, ◌≡◌, ℕ, ◌+◌, ◌-◌, ◌<◌, ◌≤◌, Bool, true, false, List, []}
use Rattle.std.proofs.Common.{◌∷◌, ◌++◌, length, ap, sym, refl, ◌∙◌, arith, take, get_or}
use Rattle.std.specs.Prelude.{codes, decimal, filter, reverse, min, max, slice_get, option_map, if◌then◌else◌, Option}
use Rattle.std.specs.Prelude.{None}
use Rattle.std.proofs.lemmas.List.Elements.{filter-append}
use Rattle.ick_bits.specs.Faults.{message_of}
use Rattle.ick_bits.specs.declared.faults.Fault.{Fault}
use Rattle.ick_syntax.specs.StatementTree.{StatementTree}
use Rattle.ick_backtrack.specs.Asked.{finish_of, finished}
use Rattle.ick_backtrack.specs.declared.asking.End.TheVariants.{GiveUp, Fault as Faulted, Limit}
use Rattle.std.specs.List.{flat_map, range_with_len}
use Rattle.std.proofs.lemmas.Option.{get_or_from_slice_get, slice_get_within}
use Rattle.std.proofs.lemmas.List.{append-nil, take_more, take_all, length-reverse, get_or-reverse}
use Rattle.ick_inspect.proofs.AddLaws.{pieces_more, range_more}
use Rattle.ick_inspect.specs.Text.{numbers_text}
use Rattle.ick_inspect.specs.Names.{array_text, dimensions_text, elements_text, variable_text}
use Rattle.ick_inspect.specs.declared.positions.LineColumn.{LineColumn}
use Rattle.ick_code.specs.Names.{slots_of}
use Rattle.ick_inspect.specs.Summary.{abstained_text, counts_text, end_text, stack_text, state_text, statements_text}
use Rattle.ick_inspect.specs.Summary.{variables_text}
use Rattle.ick_inspect.specs.Statements.{list_text, listed_text, text_at}
use Rattle.ick_syntax.specs.declared.tree.Name.{Name}
use Rattle.ick_code.specs.meaning.State.{Array, State, Ending, gave_up, faulted}

pub taken_more : {A : Type 0} (xs : List A) (k : ℕ) (x : A) → slice_get xs k ≡ Some x →
    take (k + 1) xs ≡ take k xs ++ x ∷ []
taken_more xs k x e =
    take_more xs k x (slice_get_within xs k x e)
    ∙ ap (λ y. take k xs ++ y ∷ []) (get_or_from_slice_get xs k x x e)

-- one more number
pub numbers_push : (before numbers : List ℕ) (n : ℕ) →
    numbers_text before (numbers ++ n ∷ []) ≡ numbers_text before numbers ++ (before ++ decimal n)
unfolding numbers_text
numbers_push before numbers n = pieces_more (λ k. before ++ decimal k) numbers n

pub numbers_more : (before numbers : List ℕ) (i : ℕ) → i < length numbers →
    numbers_text before (take (i + 1) numbers)
    ≡ numbers_text before (take i numbers) ++ (before ++ decimal (get_or numbers i 0))
numbers_more before numbers i h =
    ap (numbers_text before) (take_more numbers i 0 h) ∙ numbers_push before (take i numbers) (get_or numbers i 0)

pub variables_more : (names : List Name) (k : ℕ) (name : Name) (s : State) → slice_get names k ≡ Some name →
    variables_text (take (k + 1) names) s
    ≡ variables_text (take k names) s ++ (variable_text s name ++ codes "\n")
unfolding variables_text
variables_more names k name s e =
    ap (flat_map (λ n. variable_text s n ++ codes "\n")) (taken_more names k name e)
    ∙ pieces_more (λ n. variable_text s n ++ codes "\n") (take k names) name

-- whether there are no numbers
abbrev pub are_none : List ℕ → Bool
are_none [] = true
are_none (n ∷ numbers) = false

pub are_none-more : (numbers : List ℕ) (n : ℕ) → are_none (numbers ++ n ∷ []) ≡ false
are_none-more [] n = refl
are_none-more (x ∷ numbers) n = refl

pub none_left : (numbers : List ℕ) → are_none numbers ≡ true →
    numbers_text (codes " ") numbers ++ codes " none" ≡ statements_text numbers
unfolding numbers_text statements_text
none_left [] e = refl
none_left (n ∷ numbers) e = cc

pub some_left : (numbers : List ℕ) → are_none numbers ≡ false →
    numbers_text (codes " ") numbers ≡ statements_text numbers
unfolding statements_text
some_left [] e = cc
some_left (n ∷ numbers) e = refl

filter_more : (test : ℕ → Bool) (n : ℕ) (b : Bool) → test (n + 1) ≡ b →
    filter test (range_with_len 1 (n + 1))
    ≡ filter test (range_with_len 1 n) ++ (if b then (n + 1) ∷ [] else [])
filter_more test n b e =
    let alike : 1 + n ≡ n + 1 = omega arith in
    ap (filter test) (range_more 1 n ∙ ap (λ k. range_with_len 1 n ++ k ∷ []) alike)
    ∙ (filter-append test (range_with_len 1 n) ((n + 1) ∷ [])
    ∙ ap (λ t. filter test (range_with_len 1 n) ++ (if t then (n + 1) ∷ [] else [])) e)

pub filter_yes : (test : ℕ → Bool) (n : ℕ) → test (n + 1) ≡ true →
    filter test (range_with_len 1 (n + 1)) ≡ filter test (range_with_len 1 n) ++ (n + 1) ∷ []
filter_yes test n e = filter_more test n true e

pub filter_no : (test : ℕ → Bool) (n : ℕ) → test (n + 1) ≡ false →
    filter test (range_with_len 1 (n + 1)) ≡ filter test (range_with_len 1 n)
filter_no test n e = filter_more test n false e ∙ append-nil (filter test (range_with_len 1 n))

-- all numbers, the last first
pub all_returns : (numbers : List ℕ) (i : ℕ) → length numbers ≤ i → 0 < length numbers →
    numbers_text (codes " ") (take i (reverse numbers)) ≡ statements_text (reverse numbers)
all_returns numbers i all some =
    let long = length-reverse numbers in
    ap (numbers_text (codes " ")) (take_all i (reverse numbers) (omega arith))
    ∙ some_left (reverse numbers) (found (reverse numbers) (omega arith))
  where
    found : (xs : List ℕ) → 0 < length xs → are_none xs ≡ false
    found [] h = absurd (omega arith)
    found (x ∷ xs) h = refl

pub no_returns : (numbers : List ℕ) → length numbers ≡ 0 → statements_text (reverse numbers) ≡ codes " none"
unfolding statements_text
no_returns [] h = refl
no_returns (n ∷ numbers) h = absurd (omega arith)

pub reverse_more : (numbers : List ℕ) (i : ℕ) → i < length numbers →
    numbers_text (codes " ") (take (i + 1) (reverse numbers))
    ≡ numbers_text (codes " ") (take i (reverse numbers))
    ++ (codes " " ++ decimal (get_or numbers (length numbers - 1 - i) 0))
reverse_more numbers i h =
    let long = length-reverse numbers in
    numbers_more (codes " ") (reverse numbers) i (omega arith)
    ∙ ap (λ n. numbers_text (codes " ") (take i (reverse numbers)) ++ (codes " " ++ decimal n))
    (get_or-reverse numbers i 0 h)

pub all_variables : (names others : List Name) (s : State) (k : ℕ) → length names ≤ k → names ≡ others →
    variables_text (take k names) s ≡ variables_text others s
all_variables names others s k all e = ap (λ t. variables_text t s) (take_all k names all ∙ e)

-- an array, by its dimensions and its elements
pub array_some : (a : Array) (dimensions elements : List ℕ) → a.dimensions ≡ dimensions → a.elements ≡ elements →
    0 < length dimensions →
    dimensions_text dimensions ++ (codes ":" ++ numbers_text (codes " ") elements) ≡ array_text a
unfolding array_text elements_text
array_some a dimensions elements d e some =
    ap (λ t. dimensions_text dimensions ++ t) (cases dimensions some)
    ∙ (ap (λ t. dimensions_text t ++ elements_text t elements) (sym d)
    ∙ ap (λ t. dimensions_text a.dimensions ++ elements_text a.dimensions t) (sym e))
  where
    cases : (xs : List ℕ) → 0 < length xs → codes ":" ++ numbers_text (codes " ") elements ≡ elements_text xs elements
    cases [] h = absurd (omega arith)
    cases (x ∷ xs) h = refl

pub array_none : (a : Array) (dimensions : List ℕ) → a.dimensions ≡ dimensions → length dimensions ≡ 0 →
    dimensions_text dimensions ≡ array_text a
unfolding array_text elements_text
array_none a dimensions d none =
    cases dimensions none ∙ ap (λ t. dimensions_text t ++ elements_text t a.elements) (sym d)
  where
    cases : (xs : List ℕ) → length xs ≡ 0 → dimensions_text xs ≡ dimensions_text xs ++ elements_text xs a.elements
    cases [] h = sym (append-nil (dimensions_text []))
    cases (x ∷ xs) h = absurd (omega arith)

-- lines of a list
pub list_more : (line : ℕ → List ℕ) (first n : ℕ) → first ≤ n →
    flat_map line (range_with_len first (n + 1 - first))
    ≡ flat_map line (range_with_len first (n - first)) ++ line n
list_more line first n low =
    let more : n + 1 - first ≡ n - first + 1 = omega arith in
    let at : first + (n - first) ≡ n = omega arith in
    ap (λ k. flat_map line (range_with_len first k)) more
    ∙ (ap (flat_map line) (range_more first (n - first))
    ∙ (pieces_more line (range_with_len first (n - first)) (first + (n - first))
    ∙ ap (λ k. flat_map line (range_with_len first (n - first)) ++ line k) at))

pub list_is : (program : List StatementTree) (positions : List LineColumn) (place around first count : ℕ) →
    first ≡ max 1 (place - around) → count ≡ min (length program) (place + around) + 1 - first →
    flat_map (listed_text program positions place) (range_with_len first count)
    ≡ list_text program positions place around
unfolding list_text
list_is program positions place around first count e f =
    let line = listed_text program positions place in
    ap (λ k. flat_map line (range_with_len first k)) f
    ∙ ap (λ k. flat_map line (range_with_len k (min (length program) (place + around) + 1 - k))) e

-- a state, by two of its numbers
pub state_is : (program : List StatementTree) (s : State) (place count : ℕ) → s.place ≡ place → count ≡ length program →
    codes "next statement: " ++ decimal place ++ codes " of " ++ decimal count ++ codes "\n"
    ++ stack_text s
    ++ variables_text (slots_of program).scalars s
    ++ variables_text (slots_of program).arrays s
    ++ abstained_text program s
    ++ counts_text s
    ++ end_text s.end
    ≡ state_text program s
unfolding state_text
state_is program s place count e f = rw (← e, f) refl

-- the text of a statement that is there
pub text_is : (statement : Option StatementTree) (text : List ℕ) →
    option_map (λ s. s.text) statement ≡ Some text → text_at statement ≡ text
text_is None text e = cc
text_is (Some s) text e = cc

-- an end that is answered
pub end_gave_up : (end : Option Ending) → Some (finish_of GiveUp) ≡ option_map finished end →
    end_text end ≡ codes "ended: GIVE UP\n"
unfolding end_text
end_gave_up None e = cc
end_gave_up (Some gave_up) e = refl
end_gave_up (Some (faulted kind n subject)) e = cc

pub end_faulted : (end : Option Ending) (fault : Fault) → Some (finish_of (Faulted fault)) ≡ option_map finished end →
    end_text end ≡ codes "ended: " ++ message_of fault.kind fault.statement fault.subject.now
unfolding end_text
end_faulted None fault e = cc
end_faulted (Some gave_up) fault e = cc
end_faulted (Some (faulted kind n subject)) fault e =
    let k : fault.kind ≡ kind = cc in
    let m : fault.statement ≡ n = cc in
    let s : fault.subject.now ≡ subject = cc in
    ap (λ t. codes "ended: " ++ t) (sym (ap (λ x. message_of x fault.statement fault.subject.now) k
    ∙ (ap (λ x. message_of kind x fault.subject.now) m ∙ ap (message_of kind n) s)))

pub no_limit : (end : Option Ending) → Some (finish_of Limit) ≡ option_map finished end → ⊥
no_limit None e = cc
no_limit (Some x) e = cc
