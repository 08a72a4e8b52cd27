-- A map from names, kept by slots.
use Rattle.std.proofs.Common.{[], ap, arith, Bool, false, get_or, if◌then◌else◌, length, List, refl, rules, slice_get, slice_set, Some, suc, true}
use Rattle.std.{proofs.Common.{zero, ℕ, ◌&&◌, ◌<◌, ◌∙◌, ◌∷◌, ◌≡◌, ◌≤◌}, specs.List.IsDistinct}
use Rattle.ick_runtime.proofs.Names.{array_names, both, Code, code_program, fun_ext, map_of, Name, same_name}
use Rattle.ick_runtime.proofs.Names.{scalar_names, slice_get_within, with_entry}
use Rattle.ick_code.{proofs.SameNames.same_name_is, specs.{Compiled.IsCompiled, Names.{is_array_name, is_scalar_name}}}
use Rattle.ick_instructions.proofs.NameTests.{all_at, not_true, passes}
use Rattle.ick_syntax.specs.NameKinds.{is_array}

pub both_true : (a b : Bool) → (a && b) ≡ true → (a ≡ true) × (b ≡ true)
both_true true b e = (refl, e)
both_true false b e = absurd (cc)

once_head : (n : Name) (names : List Name) (slot : ℕ) (name : Name) → IsDistinct same_name (n ∷ names) →
    slice_get names slot ≡ Some name → same_name n name ≡ false
unfolding IsDistinct
once_head n names slot name once at = all_at (λ y. same_name n y ≡ false) names slot name once.0 at

once_tail : (n : Name) (names : List Name) → IsDistinct same_name (n ∷ names) → IsDistinct same_name names
unfolding IsDistinct
once_tail n names once = once.1

-- what the map has at a slot's name
pub map_of-get : {A : Type 0} (names : List Name) (xs : List A) (none : A) (slot : ℕ) (name : Name) (d : A) →
    IsDistinct same_name names → length names ≤ length xs → slice_get names slot ≡ Some name →
    map_of names xs none name ≡ get_or xs slot d
map_of-get [] xs none slot name d once len at = absurd (cc)
map_of-get (n ∷ names) [] none slot name d once len at = absurd (omega arith)
map_of-get (n ∷ names) (x ∷ xs) none zero name d once len at = search rules
map_of-get (n ∷ names) (x ∷ xs) none (suc slot) name d once len at =
    cc (once_head n names slot name once at, map_of-get names xs none slot name d (once_tail n names once) (omega arith) at)

-- a slot that is written is one name's entry, at each name
map_of-set_at : {A : Type 0} (names : List Name) (xs : List A) (none : A) (slot : ℕ) (name other : Name) (x : A) →
    IsDistinct same_name names → length names ≤ length xs → slice_get names slot ≡ Some name →
    map_of names (slice_set xs slot x) none other ≡ with_entry (map_of names xs none) name x other
map_of-set_at [] xs none slot name other x once len at = absurd (cc)
map_of-set_at (n ∷ names) [] none slot name other x once len at = absurd (omega arith)
map_of-set_at (n ∷ names) (y ∷ xs) none zero name other x once len at = search rules
map_of-set_at (n ∷ names) (y ∷ xs) none (suc slot) name other x once len at =
    cases (same_name n other) (same_name name other) refl refl
    (map_of-set_at names xs none slot name other x (once_tail n names once) (omega arith) at)
  where
    cases : (b c : Bool) → same_name n other ≡ b → same_name name other ≡ c →
        map_of names (slice_set xs slot x) none other
        ≡ (if same_name name other then x else map_of names xs none other) →
        (if b then y else map_of names (slice_set xs slot x) none other)
        ≡ (if c then x else (if b then y else map_of names xs none other))
    cases true true e f rest = absurd (cc (same_name_is name other f, e, once_head n names slot name once at))
    cases true false e f rest = refl
    cases false true e f rest = rest ∙ ap (λ c. if c then x else map_of names xs none other) f
    cases false false e f rest = rest ∙ ap (λ c. if c then x else map_of names xs none other) f

pub map_of-set : {A : Type 0} (names : List Name) (xs : List A) (none : A) (slot : ℕ) (name : Name) (x : A) →
    IsDistinct same_name names → length names ≤ length xs → slice_get names slot ≡ Some name →
    map_of names (slice_set xs slot x) none ≡ with_entry (map_of names xs none) name x
map_of-set names xs none slot name x once len at = search (rules, map_of-set_at)

-- what stands behind the slots is no name's
map_of-past_at : {A : Type 0} (names : List Name) (xs : List A) (none : A) (slot : ℕ) (other : Name) (x : A) →
    length names ≤ slot → map_of names (slice_set xs slot x) none other ≡ map_of names xs none other
map_of-past_at [] xs none slot other x past = refl
map_of-past_at (n ∷ names) [] none slot other x past = refl
map_of-past_at (n ∷ names) (y ∷ xs) none zero other x past = absurd (omega arith)
map_of-past_at (n ∷ names) (y ∷ xs) none (suc slot) other x past =
    ap (λ r. if same_name n other then y else r) (map_of-past_at names xs none slot other x (omega arith))

pub map_of-past : {A : Type 0} (names : List Name) (xs : List A) (none : A) (slot : ℕ) (x : A) →
    length names ≤ slot → map_of names (slice_set xs slot x) none ≡ map_of names xs none
map_of-past names xs none slot x past = fun_ext (λ other. map_of-past_at names xs none slot other x past)

-- an entry of the scalars, or of the arrays, is one of both
pub both-scalar : {A : Type 0} (scalars arrays : Name → A) (name : Name) (x : A) → is_array name.kind ≡ false →
    both (with_entry scalars name x) arrays ≡ with_entry (both scalars arrays) name x
both-scalar scalars arrays name x h = search rules

pub both-array : {A : Type 0} (scalars arrays : Name → A) (name : Name) (x : A) → is_array name.kind ≡ true →
    both scalars (with_entry arrays name x) ≡ with_entry (both scalars arrays) name x
both-array scalars arrays name x h = search rules

-- the name of a slot
pub record IsScalar (code : Code) (slot : ℕ) (name : Name) : Type 0 where
  pub at : slice_get (scalar_names code) slot ≡ Some name
  pub once : IsDistinct same_name (scalar_names code)
  pub kind : is_array name.kind ≡ false
  pub within : slot < length (scalar_names code)

pub scalar_slot : (code : Code) (slot : ℕ) (name : Name) → IsCompiled (code_program code) code →
    slice_get (scalar_names code) slot ≡ Some name → IsScalar code slot name
scalar_slot code slot name is at = record {
  at = at;
  once = is.scalars_once;
  kind = not_true (is_array name.kind) (passes is_scalar_name (scalar_names code) slot name is.scalars_named at);
  within = slice_get_within (scalar_names code) slot name at;
}

pub array_kind : (code : Code) (slot : ℕ) (name : Name) → IsCompiled (code_program code) code →
    slice_get (array_names code) slot ≡ Some name → is_array name.kind ≡ true
array_kind code slot name is at = passes is_array_name (array_names code) slot name is.arrays_named at
