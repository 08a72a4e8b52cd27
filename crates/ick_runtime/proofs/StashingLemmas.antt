-- Values that are put on stashes and taken off.
use Rattle.std.proofs.Common.{ap, arith, get_or, length, List, map, rules, sym, ℕ, ◌+◌, ◌-◌, ◌<◌, ◌∙◌, ◌≡◌}
use Rattle.ick_runtime.proofs.Names.{Array, array_of, array_was, arrays_of, at_slot, ChangesAt, common_steps, Err, get_or-map, get_or-set_same, IsPutOn}
use Rattle.ick_runtime.proofs.Names.{IsTakenOff, Kept, KeptStash, length-map, length-set, Like, map-set, map-set_same, no_array, no_stash, Ok, put_on}
use Rattle.ick_runtime.proofs.Names.{Result, set-get_or, set-set, slice_set, Stash, stash_in, StashLike, taken_off, undone, View, with_array_stashes}
use Rattle.ick_runtime.proofs.{Names.{with_arrays, with_scalar_stashes}, StashLemmas.arrays_dropped}
use Rattle.ick_runtime.specs.Undo.{StashesLike}
use Rattle.std.specs.Prelude.{OnErr}
use Rattle.ick_runtime.specs.declared.change.ArrayChange.TheVariants as now

-- the newest value is taken off
pub take_newest : {A : Type 0} (x : A) (s : Stash A) (depth : ℕ) → depth + 1 ≡ s.depth → depth < length s.items →
    x ≡ get_or s.items depth x → IsTakenOff x s (record { items = s.items; depth = depth })
take_newest {A} x s depth next low is = grind (arith, common_steps)

-- in exchange for another one, which is spare from then on
pub take_replaced : {A : Type 0} (x y : A) (s : Stash A) (depth : ℕ) → depth + 1 ≡ s.depth → depth < length s.items →
    x ≡ get_or s.items depth x → IsTakenOff x s (record { items = slice_set s.items depth y; depth = depth })
take_replaced {A} x y s depth next low is = grind (arith, common_steps)

pub take_exchanged : (s : KeptStash Kept) (depth : ℕ) (x y : Kept) → depth + 1 ≡ s.depth →
    x ≡ get_or s.items.items depth x →
    IsTakenOff (array_of x) (arrays_of s)
    (record { items = map array_of (slice_set s.items.items depth y); depth = depth })
take_exchanged s depth x y next is =
    let items = s.items.items in
    let inside : depth < length items = omega (arith, s.there, next) in
    rw (map-set array_of items depth y) (
    take_replaced (array_of x) (array_of y) (arrays_of s) depth next (omega (arith, inside, length-map items array_of))
    (ap array_of is ∙ sym (get_or-map array_of items depth x (array_of x) inside))
    )

-- one of many stashes is changed
pub changes_at : {A B : Type 0} (g : B → Stash A) (P : Stash A → Stash A → Type 0) (xs : List B) (slot : ℕ) (old new : B) →
    slot < length xs → old ≡ get_or xs slot old → P (g old) (g new) →
    ChangesAt slot P (map g xs) (map g (slice_set xs slot new))
changes_at g P xs slot old new low is h = search (rules, get_or-map, get_or-set_same, length-map, map-set)

changed_at : {A : Type 0} (P : Stash A → Stash A → Type 0) (xs : List (Stash A)) (slot : ℕ) (new : Stash A) →
    slot < length xs → P (get_or xs slot no_stash) new → ChangesAt slot P xs (slice_set xs slot new)
changed_at P xs slot new low h = search (rules, get_or-set_same)

pub kept_at : {A B : Type 0} (g : B → A) (xs : List B) (slot : ℕ) (old new : B) (none : A) → slot < length xs →
    old ≡ get_or xs slot old → g new ≡ g old → map g (slice_set xs slot new) ≡ map g xs
kept_at g xs slot old new none low is same =
    cc (map-set g xs slot new, same, is, get_or-map g xs slot old none low, set-get_or (map g xs) slot none)

pub saved_like : {A : Type 0} (x : A) (slot : ℕ) (held old new : List (Stash A)) → held ≡ old →
    ChangesAt slot (IsPutOn x) old new → StashesLike held (at_slot taken_off slot new)
saved_like x slot held old new same h = grind (arith, common_steps)

pub taken_like : {A : Type 0} (x : A) (slot : ℕ) (held old new : List (Stash A)) → held ≡ old →
    ChangesAt slot (IsTakenOff x) old new → StashesLike held (at_slot (put_on x) slot new)
taken_like x slot held old new same h = grind (arith, common_steps)

-- a view with stashes like those that it had
pub like_scalars : (base low : ℕ) (v : View) (stashes : List (Stash ℕ)) → StashesLike v.parts.scalar_stashes stashes →
    Like base low v (with_scalar_stashes stashes v)
like_scalars base low v stashes like = search rules

pub like_arrays : (base low : ℕ) (v : View) (stashes : List (Stash Array)) → StashesLike v.parts.array_stashes stashes →
    Like base low v (with_array_stashes stashes v)
like_arrays base low v stashes like = search rules

-- one stash that is like it was
pub like_at : {A B : Type 0} (g : B → Stash A) (xs : List B) (slot : ℕ) (old new : B) → slot < length xs →
    old ≡ get_or xs slot old → StashLike (g old) (g new) → StashesLike (map g xs) (map g (slice_set xs slot new))
like_at g xs slot old new low is like = search (rules, get_or-map, map-set, common_steps)

pub on_err : {A E : Type 0} (r : Result A E) (P : Type 0) → P → OnErr r P
on_err (Ok x) P h = tt
on_err (Err e) P h = h

-- the newest array of the stash in a slot is taken off
pub drops_at : (xs new : List (KeptStash Kept)) (slot : ℕ) (stash : KeptStash Kept) (e : Kept) → slot < length xs →
    stash ≡ get_or xs slot stash → map stash_in new ≡ at_slot taken_off slot (map stash_in xs) →
    0 < stash.depth → e ≡ get_or stash.items.items (stash.depth - 1) e →
    ChangesAt slot (IsTakenOff (array_of e)) (map arrays_of xs) (map arrays_of new)
drops_at xs new slot stash e low is new_is some e_is =
    let x = array_of e in
    let at = stash.depth - 1 in
    let next : at + 1 ≡ stash.depth = omega (arith, some) in
    let inside : at < length stash.items.items = omega (arith, stash.there, some) in
    let inside' : at < length (map array_of stash.items.items) = omega (arith, inside, length-map stash.items.items array_of) in
    let was : get_or (map arrays_of xs) slot no_stash ≡ arrays_of stash =
    get_or-map arrays_of xs slot stash no_stash low ∙ ap arrays_of (sym is) in
    rw (arrays_dropped xs new slot new_is) (
    changed_at (IsTakenOff x) (map arrays_of xs) slot _ (omega (arith, low, length-map xs arrays_of))
    (rw was (take_newest x (arrays_of stash) at next inside'
    (ap array_of e_is ∙ sym (get_or-map array_of stash.items.items at e x inside))))
    )

-- an array that was exchanged for the newest one of its stash
pub exchanged_like : (base low slot : ℕ) (v : View) (x : Array) (new : List (Stash Array)) → slot < length v.parts.arrays →
    ChangesAt slot (IsTakenOff x) v.parts.array_stashes new →
    Like base low v (undone (array_was now.Restored slot (get_or v.parts.arrays slot no_array))
    (with_array_stashes new (with_arrays (slice_set v.parts.arrays slot x) v)))
exchanged_like base low slot v x new there h =
    grind (arith, common_steps, length-set, set-set, set-get_or, get_or-set_same, like_arrays, taken_like)

-- for what a stash of many becomes
pub ruleset stashing = (common_steps, kept_at, length-map, like_arrays, like_at, map-set, map-set_same, on_err)
