-- What a step may change: the names of its statement's operations, and the abstentions if one of them is of abstaining.
use Rattle.std.proofs.Common.{◌≡◌, ◌≤◌, ◌<◌, ◌+◌, ℕ, zero, suc, Bool, true, false, not, ◌||◌, if◌then◌else◌, List, [], ◌∷◌}
use Rattle.std.proofs.Common.{◌++◌, length, refl, ap, sym, ◌∙◌, subst, arith, append_assoc, eq-eqb, get_or, take, Option, Some}
use Rattle.std.proofs.Common.{None}
use Rattle.std.specs.Prelude.{bytes_eq, filter}
use Rattle.std.specs.Bool.{beq}
use Rattle.std.specs.List.{filter_map, flat_map, list_any}
use Rattle.std.proofs.lemmas.Bool.Decides.{nat_tests}
use Rattle.std.proofs.lemmas.List.{append-nil, take_more}
use Rattle.std.proofs.lemmas.List.Elements.{filter-append, filter_map-append}
use Rattle.std.proofs.lemmas.List.Folds.{list_any-append}
use Rattle.std.proofs.lemmas.Grind.{flat_map-append}
use Rattle.std.proofs.lemmas.Option.{slice_get_within}
use Rattle.std.proofs.lemmas.Slice.Eq.{bytes_eq-Decides}
use Rattle.ick_bits.specs.declared.faults.FaultKind.TheVariants.{OffTheEdge}
use Rattle.ick_syntax.specs.declared.tree.Name.{Name}
use Rattle.ick_syntax.specs.StatementTree.{StatementTree}
use Rattle.ick_code.specs.declared.code.Code.{Code}
use Rattle.ick_code.specs.declared.op.Op.{Op}
use Rattle.ick_code.specs.Compiled.{IsCompiled, code_ops, code_program, code_slots}
use Rattle.ick_code.specs.Effects.{Slots}
use Rattle.ick_code.specs.Names.{each_once, is_among}
use Rattle.ick_code.specs.meaning.Do.{do_statement}
use Rattle.ick_code.specs.meaning.Move.{advance, is_done, meet, pass_over}
use Rattle.ick_code.specs.meaning.State.{State, faulted, same_name, statement_at, with_entry}
use Rattle.ick_code.proofs.SameNames.{same_name-refl, same_name_is}
use Rattle.ick_session.specs.Changes.{Had, alike, had_at, piece_unless}
use Rattle.ick_session.specs.Targets.{changed_name, is_name, is_of_abstaining, names_changed_by, ops_at, targets_of}
use Rattle.ick_session.proofs.FrameLaws.{AreAside, IsApart, IsAside, IsSettled, IsSteady, statement_leaves}

-- a name before others, each of them once
other_way : (x y : Name) (b : Bool) → same_name x y ≡ b → same_name y x ≡ b
other_way x y true h =
    subst (λ z. same_name z x ≡ true) (same_name_is x y h) (same_name-refl x)
other_way x y false h = back (same_name y x) refl
  where
    back : (b : Bool) → same_name y x ≡ b → same_name y x ≡ false
    back false e = e
    back true e =
        let same : same_name x y ≡ true =
        subst (λ z. same_name z y ≡ true) (same_name_is y x e) (same_name-refl y) in
        absurd (cc)

more_cases : (x y : Name) (ys more : List Name) (b c : Bool) → same_name y x ≡ b →
    more ≡ (if c then each_once ys else each_once ys ++ x ∷ []) →
    y ∷ filter (λ other. not (same_name y other)) more
    ≡ (if b || c then y ∷ filter (λ other. not (same_name y other)) (each_once ys)
    else (y ∷ filter (λ other. not (same_name y other)) (each_once ys)) ++ x ∷ [])
more_cases x y ys more true true is e = ap (λ l. y ∷ filter (λ other. not (same_name y other)) l) e
more_cases x y ys more false true is e = ap (λ l. y ∷ filter (λ other. not (same_name y other)) l) e
more_cases x y ys more true false is e =
    ap (λ l. y ∷ filter (λ other. not (same_name y other)) l) e
    ∙ ap (λ l. y ∷ l) (filter-append (λ other. not (same_name y other)) (each_once ys) (x ∷ [])
    ∙ ap (λ b. filter (λ other. not (same_name y other)) (each_once ys) ++ (if not b then x ∷ [] else [])) is
    ∙ append-nil (filter (λ other. not (same_name y other)) (each_once ys)))
more_cases x y ys more false false is e =
    ap (λ l. y ∷ filter (λ other. not (same_name y other)) l) e
    ∙ ap (λ l. y ∷ l) (filter-append (λ other. not (same_name y other)) (each_once ys) (x ∷ [])
    ∙ ap (λ b. filter (λ other. not (same_name y other)) (each_once ys) ++ (if not b then x ∷ [] else [])) is)

-- one more name
once_more : (xs : List Name) (x : Name) →
    each_once (xs ++ x ∷ []) ≡ (if is_among x xs then each_once xs else each_once xs ++ x ∷ [])
once_more [] x = refl
once_more (y ∷ ys) x =
    more_cases x y ys (each_once (ys ++ x ∷ [])) (same_name x y) (is_among x ys) (other_way x y (same_name x y) refl)
    (once_more ys x)

-- the piece of one more name
piece_cases : (f : Name → List ℕ) (xs : List Name) (x : Name) (b : Bool) →
    flat_map f (if b then xs else xs ++ x ∷ []) ≡ flat_map f xs ++ (if b then [] else f x)
piece_cases f xs x true = sym (append-nil (flat_map f xs))
piece_cases f xs x false = flat_map-append f xs (x ∷ []) ∙ ap (λ l. flat_map f xs ++ l) (append-nil (f x))

option_piece : (f : Name → List ℕ) (xs : List Name) (o : Option Name) →
    flat_map f (each_once (xs ++ filter_map (λ o. o) (o ∷ []))) ≡ flat_map f (each_once xs) ++ piece_unless f xs o
option_piece f xs None =
    ap (λ l. flat_map f (each_once l)) (append-nil xs) ∙ sym (append-nil (flat_map f (each_once xs)))
option_piece f xs (Some x) =
    ap (flat_map f) (once_more xs x) ∙ piece_cases f (each_once xs) x (is_among x xs)

pub targets_more : (f : Name → List ℕ) (slots : Slots) (ops : List Op) (k : ℕ) (d : Op) → k < length ops →
    flat_map f (targets_of slots (take (k + 1) ops))
    ≡ flat_map f (targets_of slots (take k ops))
    ++ piece_unless f (names_changed_by slots (take k ops)) (changed_name slots (get_or ops k d))
targets_more f slots ops k d low =
    ap (λ l. flat_map f (each_once (filter_map (changed_name slots) l))) (take_more ops k d low)
    ∙ ap (λ l. flat_map f (each_once l)) (filter_map-append (changed_name slots) (take k ops) (get_or ops k d ∷ []))
    ∙ option_piece f (names_changed_by slots (take k ops)) (changed_name slots (get_or ops k d))

-- each name is still there
filter_cases : (p : Name → Bool) (name other : Name) (names : List Name) (b c : Bool) →
    same_name name other ≡ b → p other ≡ c → p name ≡ true → (b || is_among name names) ≡ true →
    (is_among name names ≡ true → is_among name (filter p names) ≡ true) →
    is_among name (if c then other ∷ filter p names else filter p names) ≡ true
filter_cases p name other names true true is passes own h rest = ap (λ b. b || is_among name (filter p names)) is
filter_cases p name other names true false is passes own h rest =
    let same : p name ≡ p other = ap p (same_name_is name other is) in
    absurd (cc)
filter_cases p name other names false true is passes own h rest =
    ap (λ b. b || is_among name (filter p names)) is ∙ rest h
filter_cases p name other names false false is passes own h rest = rest h

among_filtered : (p : Name → Bool) (name : Name) (names : List Name) → p name ≡ true →
    is_among name names ≡ true → is_among name (filter p names) ≡ true
among_filtered p name [] own h = absurd (cc)
among_filtered p name (other ∷ names) own h =
    filter_cases p name other names (same_name name other) (p other) refl refl own h
    (λ e. among_filtered p name names own e)

once_cases : (name other : Name) (names : List Name) (b : Bool) → same_name name other ≡ b →
    (b || is_among name names) ≡ true →
    (is_among name names ≡ true → is_among name (each_once names) ≡ true) →
    is_among name (each_once (other ∷ names)) ≡ true
once_cases name other names true is h rest =
    ap (λ b. b || is_among name (filter (λ x. not (same_name other x)) (each_once names))) is
once_cases name other names false is h rest =
    ap (λ b. b || is_among name (filter (λ x. not (same_name other x)) (each_once names))) is
    ∙ among_filtered (λ x. not (same_name other x)) name (each_once names)
    (ap not (other_way name other false is)) (rest h)

among_once : (name : Name) (names : List Name) → is_among name names ≡ true → is_among name (each_once names) ≡ true
among_once name [] h = absurd (cc)
among_once name (other ∷ names) h =
    once_cases name other names (same_name name other) refl h (λ e. among_once name names e)

-- the piece of a name that is among others
pub record HasPiece (text piece : List ℕ) : Type 0 where
  pub front : List ℕ
  pub back : List ℕ
  pub text_is : text ≡ front ++ piece ++ back

piece_placed : (f : Name → List ℕ) (name other : Name) (names : List Name) (b : Bool) → same_name name other ≡ b →
    (b || is_among name names) ≡ true → (is_among name names ≡ true → HasPiece (flat_map f names) (f name)) →
    HasPiece (flat_map f (other ∷ names)) (f name)
piece_placed f name other names true is h rest = record {
  front = [];
  back = flat_map f names;
  text_is = ap (λ x. f x ++ flat_map f names) (sym (same_name_is name other is));
}
piece_placed f name other names false is h rest =
    let found = rest h in
    record {
      front = f other ++ found.front;
      back = found.back;
      text_is = ap (λ l. f other ++ l) found.text_is
          ∙ (ap (λ l. f other ++ l) (append_assoc found.front (f name) found.back)
          ∙ (sym (append_assoc (f other) found.front (f name ++ found.back))
          ∙ sym (append_assoc (f other ++ found.front) (f name) found.back)));
    }

among_pieces : (f : Name → List ℕ) (name : Name) (names : List Name) → is_among name names ≡ true →
    HasPiece (flat_map f names) (f name)
among_pieces f name [] h = absurd (cc)
among_pieces f name (other ∷ names) h =
    piece_placed f name other names (same_name name other) refl h (λ e. among_pieces f name names e)

-- what is seen of a state at a name
entry_other : {A : Type 0} (m : Name → A) (name other : Name) (x : A) → same_name name other ≡ false →
    with_entry m name x other ≡ m other
entry_other m name other x h = ap (λ b. if b then x else m other) h

had_steady : (name : Name) → IsSteady Had (λ s. had_at s name)
had_steady name = record { other = λ s place returns input output last lastin end. refl }

had_settled : (name : Name) → IsSettled Had (λ s. had_at s name)
had_settled name = λ s flags. refl

had_apart : (name other : Name) → same_name name other ≡ false → IsApart Had (λ s. had_at s other) name
had_apart name other h = record {
  scalars = λ s n. ap (λ m. record (had_at s other) { number = m }) (entry_other s.scalars name other n h);
  arrays = λ s array. ap (λ a. record (had_at s other) { dimensions = a.dimensions; elements = a.elements })
      (entry_other s.arrays name other array h);
  stashed_scalars = λ s ns. ap (λ l. record (had_at s other) { numbers = length l })
      (entry_other s.stashed_scalars name other ns h);
  stashed_arrays = λ s arrays. ap (λ l. record (had_at s other) { arrays = length l })
      (entry_other s.stashed_arrays name other arrays h);
  ignored = λ s on. ap (λ b. record (had_at s other) { ignored = b }) (entry_other s.ignored name other on h);
}

-- an operation that doesn't change the name
none_left : (a b : Bool) → (a || b) ≡ false → (a ≡ false) × (b ≡ false)
none_left true b h = absurd (cc)
none_left false b h = (refl, h)

aside_cases : (slots : Slots) (name : Name) (op : Op) (o : Option Name) (names : List Name) →
    changed_name slots op ≡ o → is_among name (filter_map (λ x. x) (o ∷ []) ++ names) ≡ false →
    IsAside Had (λ s. had_at s name) slots op × (is_among name names ≡ false)
aside_cases slots name op None names at h = (
  record { names = λ other found. absurd (cc); abstentions = λ is. had_settled name },
  h,
)
aside_cases slots name op (Some target) names at h =
    let parts = none_left (same_name name target) (is_among name names) h in (
      record {
        names = λ other found.
            let same : target ≡ other = cc in
            had_apart other name (subst (λ x. same_name x name ≡ false) same (other_way name target false parts.0));
        abstentions = λ is. had_settled name;
      },
      parts.1,
    )

names_aside : (slots : Slots) (name : Name) (ops : List Op) → is_among name (names_changed_by slots ops) ≡ false →
    AreAside Had (λ s. had_at s name) slots ops
names_aside slots name [] h = tt
names_aside slots name (op ∷ ops) h =
    let joined = filter_map-append (changed_name slots) (op ∷ []) ops in
    let parts = aside_cases slots name op (changed_name slots op) (names_changed_by slots ops) refl
    (ap (is_among name) (sym joined) ∙ h) in
    (parts.0, names_aside slots name ops parts.1)

-- what is seen of abstentions
flags_steady : IsSteady (ℕ → Bool) (λ s. s.abstained)
flags_steady = record { other = λ s place returns input output last lastin end. refl }

flags_apart : (name : Name) → IsApart (ℕ → Bool) (λ s. s.abstained) name
flags_apart name = record {
  scalars = λ s n. refl;
  arrays = λ s array. refl;
  stashed_scalars = λ s ns. refl;
  stashed_arrays = λ s arrays. refl;
  ignored = λ s on. refl;
}

flags_aside : (slots : Slots) (ops : List Op) → list_any is_of_abstaining ops ≡ false →
    AreAside (ℕ → Bool) (λ s. s.abstained) slots ops
flags_aside slots [] h = tt
flags_aside slots (op ∷ ops) h =
    let parts = none_left (is_of_abstaining op) (list_any is_of_abstaining ops) h in (
      record { names = λ name at. flags_apart name; abstentions = λ is. absurd (cc) },
      flags_aside slots ops parts.1,
    )

-- one step
ops_are : (code : Code) (n : ℕ) → 1 ≤ n → n ≤ length (code_program code) → ops_at code n ≡ code_ops code n
ops_are code n low high = grind (arith, nat_tests)

ops_found : (p : List StatementTree) (code : Code) (n : ℕ) (statement : StatementTree) → code_program code ≡ p →
    statement_at p n ≡ Some statement → ops_at code n ≡ code_ops code n
ops_found p code zero statement same at = absurd (cc)
ops_found p code (suc k) statement same at =
    let low = slice_get_within p k statement at in
    let long : length (code_program code) ≡ length p = ap length same in
    ops_are code (suc k) (omega arith) (omega arith)

module _ (A : Type 0) (view : State → A) (steady : IsSteady A view) (p : List StatementTree) (code : Code)
    (is : IsCompiled p code) (s : State) where
  done_leaves : (statement : StatementTree) → statement_at p s.place ≡ Some statement →
      AreAside A view (code_slots code) (ops_at code s.place) → view (do_statement p statement s) ≡ view s
  done_leaves statement at aside =
      let same = ops_found p code s.place statement is.program_is at in
      statement_leaves A view steady (view s) p (code_slots code) statement.text (code_ops code s.place) statement s
      (subst (λ ops. AreAside A view (code_slots code) ops) same aside) refl
      (is.means s.place statement at).does refl

  met_leaves : (chosen : Bool) (o : Option StatementTree) → statement_at p s.place ≡ o →
      AreAside A view (code_slots code) (ops_at code s.place) → view (meet p o s chosen) ≡ view s
  met_leaves chosen None at aside =
      steady.other s s.place s.returns s.input s.output s.last s.lastin (Some (faulted OffTheEdge (length p) []))
  met_leaves chosen (Some statement) at aside = cases (is_done statement (s.abstained s.place) chosen)
    where
      cases : (b : Bool) → view (if b then do_statement p statement s else pass_over s) ≡ view s
      cases true = done_leaves statement at aside
      cases false = steady.other s (s.place + 1) s.returns s.input s.output s.last s.lastin s.end

  pub step_leaves : (chosen : Bool) → AreAside A view (code_slots code) (ops_at code s.place) →
      view (advance p s chosen) ≡ view s
  unfolding advance
  step_leaves chosen aside = met_leaves chosen (statement_at p s.place) refl aside

-- a step whose operations aren't of abstaining leaves abstentions as they were
pub flags_left : (p : List StatementTree) (code : Code) (s : State) (chosen : Bool) → IsCompiled p code →
    list_any is_of_abstaining (ops_at code s.place) ≡ false → (advance p s chosen).abstained ≡ s.abstained
flags_left p code s chosen is none =
    step_leaves (ℕ → Bool) (λ s. s.abstained) flags_steady p code is s chosen
    (flags_aside (code_slots code) (ops_at code s.place) none)

-- and one that doesn't change a name leaves all at the name as it was
pub had_left : (p : List StatementTree) (code : Code) (s : State) (chosen : Bool) (name : Name) → IsCompiled p code →
    is_among name (names_changed_by (code_slots code) (ops_at code s.place)) ≡ false →
    had_at (advance p s chosen) name ≡ had_at s name
had_left p code s chosen name is none =
    step_leaves Had (λ s. had_at s name) (had_steady name) p code is s chosen
    (names_aside (code_slots code) name (ops_at code s.place) none)

-- what is seen of a state at a name is alike if it is the same
pub alike_itself : (h : Had) → alike h h ≡ true
alike_itself h =
    rw (
      eq-eqb h.number h.number refl,
      beq_same h.ignored,
      eq-eqb h.numbers h.numbers refl,
      eq-eqb h.arrays h.arrays refl,
      bytes_same h.dimensions,
      bytes_same h.elements,
    ) refl
  where
    beq_same : (b : Bool) → beq b b ≡ true
    beq_same true = refl
    beq_same false = refl

    bytes_same : (xs : List ℕ) → bytes_eq xs xs ≡ true
    bytes_same xs = (bytes_eq-Decides xs xs).1 refl

-- a name that isn't as before is one of those that the operations may change
changed_among : (p : List StatementTree) (code : Code) (s : State) (chosen : Bool) (name : Name) → IsCompiled p code →
    alike (had_at s name) (had_at (advance p s chosen) name) ≡ false → (b : Bool) →
    is_among name (names_changed_by (code_slots code) (ops_at code s.place)) ≡ b → b ≡ true
changed_among p code s chosen name is differs true at = refl
changed_among p code s chosen name is differs false at =
    let same : alike (had_at s name) (had_at (advance p s chosen) name) ≡ true =
    ap (alike (had_at s name)) (had_left p code s chosen name is at) ∙ alike_itself (had_at s name) in
    absurd (cc)

pub changed_has_piece : (f : Name → List ℕ) (p : List StatementTree) (code : Code) (s : State) (chosen : Bool)
    (name : Name) → IsCompiled p code → alike (had_at s name) (had_at (advance p s chosen) name) ≡ false →
    HasPiece (flat_map f (targets_of (code_slots code) (ops_at code s.place))) (f name)
changed_has_piece f p code s chosen name is differs =
    let names = names_changed_by (code_slots code) (ops_at code s.place) in
    among_pieces f name (each_once names)
    (among_once name names (changed_among p code s chosen name is differs (is_among name names) refl))

-- a test of the first elements, and of one more
pub none_more : {X : Type 0} (p : X → Bool) (xs : List X) (k : ℕ) (d : X) → k < length xs →
    list_any p (take k xs) ≡ false → p (get_or xs k d) ≡ false → list_any p (take (k + 1) xs) ≡ false
none_more p xs k d low none is =
    ap (list_any p) (take_more xs k d low) ∙ (list_any-append p (take k xs) (get_or xs k d ∷ [])
    ∙ (ap (λ b. b || (p (get_or xs k d) || false)) none ∙ ap (λ b. b || false) is))

pub some_found : {X : Type 0} (p : X → Bool) (xs : List X) (k : ℕ) (d : X) → k < length xs →
    p (get_or xs k d) ≡ true → list_any p xs ≡ true
some_found p [] k d low is = absurd (omega arith)
some_found p (x ∷ xs) zero d low is = ap (λ b. b || list_any p xs) is
some_found p (x ∷ xs) (suc k) d low is = later (p x) (some_found p xs k d (omega arith) is)
  where
    later : (b : Bool) → list_any p xs ≡ true → (b || list_any p xs) ≡ true
    later true h = refl
    later false h = h

-- a name is among those that operations may change, if one of them may change it
pub among_by : (slots : Slots) (name : Name) (ops : List Op) →
    list_any (λ op. is_name name (changed_name slots op)) ops ≡ is_among name (names_changed_by slots ops)
among_by slots name [] = refl
among_by slots name (op ∷ ops) =
    cases (changed_name slots op) (among_by slots name ops)
    ∙ ap (is_among name) (sym (filter_map-append (changed_name slots) (op ∷ []) ops))
  where
    cases : (o : Option Name) →
        list_any (λ op. is_name name (changed_name slots op)) ops ≡ is_among name (names_changed_by slots ops) →
        (is_name name o || list_any (λ op. is_name name (changed_name slots op)) ops)
        ≡ is_among name (filter_map (λ x. x) (o ∷ []) ++ names_changed_by slots ops)
    cases None h = h
    cases (Some other) h = ap (λ b. same_name name other || b) h
