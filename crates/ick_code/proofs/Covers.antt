-- Names that have slots.
use Rattle.std.proofs.Common.{◌≡◌, true, not, List, ◌∷◌, ◌++◌, Some, refl, sym, ap, ◌∙◌}
use Rattle.std.proofs.Common.{if◌then◌else◌}
use Rattle.std.proofs.lemmas.Bool.{not-true, or_left, or_right}
use Rattle.std.proofs.lemmas.List.Folds.{list_any-append}
use Rattle.ick_syntax.specs.declared.tree.Name.{Name}
use Rattle.ick_syntax.specs.declared.tree.NameKind.{NameKind}
use Rattle.ick_syntax.specs.declared.tree.NameKind.TheVariants.{Onespot, Twospot, Tail, Hybrid}
use Rattle.ick_syntax.specs.NameKinds.{is_array, is_tail}
use Rattle.ick_code.specs.declared.op.SlotName.TheVariants.{Scalar, Array}
use Rattle.ick_code.specs.meaning.State.{same_name}
use Rattle.ick_code.proofs.SameNames.{same_name-refl}
use Rattle.ick_code.specs.Effects.{Slots, name_at}
use Rattle.ick_code.specs.Names.{is_among, slot_in, slot_name}

-- a name is that of its slot
abbrev pub HasSlot : Slots → Name → Type 0
HasSlot slots name = name_at slots (slot_name slots name) ≡ Some name

-- each of these names is that of its slot
abbrev pub Covers : Slots → List Name → Type 0
Covers slots names = (name : Name) → is_among name names ≡ true → HasSlot slots name

pub covers_left : (slots : Slots) (xs ys : List Name) → Covers slots (xs ++ ys) → Covers slots xs
covers_left slots xs ys h name in_xs =
    h name (list_any-append (same_name name) xs ys ∙ or_left (is_among name xs) (is_among name ys) in_xs)

pub covers_right : (slots : Slots) (xs ys : List Name) → Covers slots (xs ++ ys) → Covers slots ys
covers_right slots xs ys h name in_ys =
    h name (list_any-append (same_name name) xs ys ∙ or_right (is_among name xs) (is_among name ys) in_ys)

pub covers_head : (slots : Slots) (x : Name) (xs : List Name) → Covers slots (x ∷ xs) → HasSlot slots x
covers_head slots x xs h = h x (or_left (same_name x x) (is_among x xs) (same_name-refl x))

pub covers_tail : (slots : Slots) (x : Name) (xs : List Name) → Covers slots (x ∷ xs) → Covers slots xs
covers_tail slots x xs h name in_xs = h name (or_right (same_name name x) (is_among name xs) in_xs)

pub scalar_slot : (slots : Slots) (name : Name) → not (is_array name.kind) ≡ true → HasSlot slots name →
    name_at slots (Scalar (slot_in slots.scalars name)) ≡ Some name
scalar_slot slots name kinded has =
    ap (λ b. name_at slots (if b then Array (slot_in slots.arrays name) else Scalar (slot_in slots.scalars name)))
    (sym (not-true (is_array name.kind) kinded)) ∙ has

pub array_slot : (slots : Slots) (name : Name) → is_array name.kind ≡ true → HasSlot slots name →
    name_at slots (Array (slot_in slots.arrays name)) ≡ Some name
array_slot slots name kinded has =
    ap (λ b. name_at slots (if b then Array (slot_in slots.arrays name) else Scalar (slot_in slots.scalars name)))
    (sym kinded) ∙ has

pub tail_is_array : (kind : NameKind) → is_tail kind ≡ true → is_array kind ≡ true
tail_is_array Onespot h = absurd (cc)
tail_is_array Twospot h = absurd (cc)
tail_is_array Tail h = refl
tail_is_array Hybrid h = absurd (cc)
