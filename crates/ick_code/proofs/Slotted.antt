-- The slots of a program are those that its names get, and each of its names has one.
use Rattle.std.proofs.Common.{◌≡◌, ℕ, zero, suc, Bool, true, false, not, ◌||◌, List, [], ◌∷◌, Some}
use Rattle.std.proofs.Common.{refl, ap, ◌∙◌, subst, if◌then◌else◌}
use Rattle.std.specs.Prelude.{filter, slice_get}
use Rattle.std.specs.List.{list_all}
use Rattle.std.proofs.lemmas.Bool.{false_from_ne_true}
use Rattle.ick_syntax.specs.declared.tree.Name.{Name}
use Rattle.ick_syntax.specs.StatementTree.{StatementTree}
use Rattle.ick_syntax.specs.NameKinds.{is_array, is_body_kinded, is_statement_kinded}
use Rattle.ick_code.specs.declared.op.SlotName.TheVariants.{Scalar, Array}
use Rattle.ick_code.specs.meaning.State.{same_name}
use Rattle.ick_code.specs.Effects.{Slots, name_at}
use Rattle.ick_code.specs.Names.{names_of_body, names_of, is_scalar_name, is_array_name, is_among, each_once, slots_of}
use Rattle.ick_code.specs.Names.{slot_in, with_name}
use Rattle.ick_code.specs.Tables.{with_slot, with_names, no_slots}
use Rattle.ick_code.proofs.Bools.{both_left, both_right}
use Rattle.ick_code.proofs.Members.{some_is}
use Rattle.ick_code.proofs.SameNames.{same_name_is, same_name-refl}
use Rattle.ick_code.proofs.SlotLemmas.{added, added-none, found-stands}
use Rattle.ick_code.proofs.Covers.{Covers, covers_left, covers_right}

pub slots_is : (a b : Slots) → a.scalars ≡ b.scalars → a.arrays ≡ b.arrays → a ≡ b
slots_is a b scalars arrays =
    let put : List Name → List Name → Slots = λ xs ys. record { scalars = xs; arrays = ys } in
    ap (λ xs. put xs a.arrays) scalars ∙ ap (put b.scalars) arrays

-- a name that came, and those after it
came : (slots : Slots) (name : Name) (b : Bool) → Slots
came slots name b =
    if b then record slots {
      arrays = with_name slots.arrays name;
    } else record slots { scalars = with_name slots.scalars name }

scalars_cases : (slots : Slots) (name : Name) (names : List Name) (b : Bool) →
    added (came slots name b).scalars (filter is_scalar_name names)
    ≡ added slots.scalars (if not b then name ∷ filter is_scalar_name names else filter is_scalar_name names)
unfolding came added
scalars_cases slots name names true = refl
scalars_cases slots name names false = refl

arrays_cases : (slots : Slots) (name : Name) (names : List Name) (b : Bool) →
    added (came slots name b).arrays (filter is_array_name names)
    ≡ added slots.arrays (if b then name ∷ filter is_array_name names else filter is_array_name names)
unfolding came added
arrays_cases slots name names true = refl
arrays_cases slots name names false = refl

with_names-scalars : (slots : Slots) (names : List Name) → (with_names slots names).scalars
    ≡ added slots.scalars (filter is_scalar_name names)
unfolding with_names came added
with_names-scalars slots [] = refl
with_names-scalars slots (name ∷ names) =
    with_names-scalars (with_slot slots name) names ∙ scalars_cases slots name names (is_array name.kind)

with_names-arrays : (slots : Slots) (names : List Name) → (with_names slots names).arrays
    ≡ added slots.arrays (filter is_array_name names)
unfolding with_names came added
with_names-arrays slots [] = refl
with_names-arrays slots (name ∷ names) =
    with_names-arrays (with_slot slots name) names ∙ arrays_cases slots name names (is_array name.kind)

pub with_names-slots_of : (program : List StatementTree) → with_names no_slots (names_of program) ≡ slots_of program
with_names-slots_of program =
    slots_is (with_names no_slots (names_of program)) (slots_of program)
    (with_names-scalars no_slots (names_of program) ∙ added-none (filter is_scalar_name (names_of program)))
    (with_names-arrays no_slots (names_of program) ∙ added-none (filter is_array_name (names_of program)))

-- a name that passes a test is among those that pass it
filter_cases : (p : Name → Bool) (name other : Name) (names : List Name) (b c : Bool) →
    same_name name other ≡ b → p other ≡ c → p name ≡ true → (b || is_among name names) ≡ true →
    (is_among name names ≡ true → is_among name (filter p names) ≡ true) →
    is_among name (if c then other ∷ filter p names else filter p names) ≡ true
filter_cases p name other names true true is passes own h rest = ap (λ b. b || is_among name (filter p names)) is
filter_cases p name other names true false is passes own h rest =
    let same : p name ≡ p other = ap p (same_name_is name other is) in
    absurd (cc)
filter_cases p name other names false true is passes own h rest =
    ap (λ b. b || is_among name (filter p names)) is ∙ rest h
filter_cases p name other names false false is passes own h rest = rest h

among-filter : (p : Name → Bool) (name : Name) (names : List Name) → p name ≡ true →
    is_among name names ≡ true → is_among name (filter p names) ≡ true
among-filter p name [] own h = absurd (cc)
among-filter p name (other ∷ names) own h =
    filter_cases p name other names (same_name name other) (p other) refl refl own h
    (λ e. among-filter p name names own e)

once_cases : (name other : Name) (names : List Name) (b : Bool) →
    same_name name other ≡ b → (b || is_among name names) ≡ true →
    (is_among name names ≡ true → is_among name (each_once names) ≡ true) →
    is_among name (each_once (other ∷ names)) ≡ true
once_cases name other names true is h rest =
    ap (λ b. b || is_among name (filter (λ x. not (same_name other x)) (each_once names))) is
once_cases name other names false is h rest =
    let apart : same_name other name ≡ false = apart_from other name is in
    ap (λ b. b || is_among name (filter (λ x. not (same_name other x)) (each_once names))) is
    ∙ among-filter (λ x. not (same_name other x)) name (each_once names) (ap not apart) (rest h)
  where
    apart_from : (a b : Name) → same_name b a ≡ false → same_name a b ≡ false
    apart_from a b h =
        false_from_ne_true (same_name a b) (λ e. let same : same_name b a ≡ true =
        subst (λ x. same_name x a ≡ true) (same_name_is a b e) (same_name-refl a) in absurd (cc))

among-each_once : (name : Name) (names : List Name) → is_among name names ≡ true →
    is_among name (each_once names) ≡ true
among-each_once name [] h = absurd (cc)
among-each_once name (other ∷ names) h =
    once_cases name other names (same_name name other) refl h (λ e. among-each_once name names e)

-- each name of a program has a slot
pub covers_all : (program : List StatementTree) → Covers (slots_of program) (names_of program)
covers_all program name h = cases (is_array name.kind) refl
  where
    slots : Slots
    slots = slots_of program

    cases : (b : Bool) → is_array name.kind ≡ b →
        name_at (slots_of program) (if b then Array (slot_in (slots_of program).arrays name) else Scalar
        (slot_in (slots_of program).scalars name)) ≡ Some name
    cases true is =
        found-stands (slots_of program).arrays name
        (among-each_once name _ (among-filter is_array_name name (names_of program) is h))
    cases false is =
        found-stands (slots_of program).scalars name
        (among-each_once name _ (among-filter is_scalar_name name (names_of program) (ap not is) h))

pub covers_part : (slots : Slots) (program : List StatementTree) (n : ℕ) (statement : StatementTree) →
    slice_get program n ≡ Some statement → Covers slots (names_of program) →
    Covers slots (names_of_body statement.body)
covers_part slots [] n statement at covered = absurd (cc)
covers_part slots (first ∷ rest) zero statement at covered =
    subst (λ s. Covers slots (names_of_body s.body)) (some_is first statement at)
    (covers_left slots (names_of_body first.body) (names_of rest) covered)
covers_part slots (first ∷ rest) (suc n) statement at covered =
    covers_part slots rest n statement at (covers_right slots (names_of_body first.body) (names_of rest) covered)

pub kinded_part : (program : List StatementTree) (n : ℕ) (statement : StatementTree) →
    slice_get program n ≡ Some statement → list_all is_statement_kinded program ≡ true →
    is_body_kinded statement.body ≡ true
kinded_part [] n statement at kinded = absurd (cc)
kinded_part (first ∷ rest) zero statement at kinded =
    subst (λ s. is_body_kinded s.body ≡ true) (some_is first statement at)
    (both_left (is_statement_kinded first) (list_all is_statement_kinded rest) kinded)
kinded_part (first ∷ rest) (suc n) statement at kinded =
    kinded_part rest n statement at (both_right (is_statement_kinded first) (list_all is_statement_kinded rest) kinded)
