-- Stashes that are alike, and changes of one of them.
use Rattle.std.proofs.Common.{[], ap, arith, get_or, length, List, map, refl, rules, subst, suc, sym, take, zero, ℕ, ◌-◌, ◌∙◌, ◌∷◌, ◌≡◌}
use Rattle.ick_runtime.proofs.Names.{Array, array_of, arrays_of, at_slot, common_steps, Kept, KeptStash, length-map, map-set, no_stash, Parts}
use Rattle.ick_runtime.proofs.Names.{PartsLike, put_on, Stash, stash_in, StashLike, take-take, taken_off, used}
use Rattle.std.{proofs.lemmas.Simd.map-map, specs.Prelude.replicate}

pub parts_refl : (p : Parts) → PartsLike p p
parts_refl p = search rules

pub parts_same : {p q : Parts} → q ≡ p → PartsLike p q
parts_same {p} e = subst (PartsLike p) (sym e) (parts_refl p)

-- the values below one less
pub fewer_used : {A : Type 0} (n : ℕ) (xs ys : List A) → take n ys ≡ take n xs → take (n - 1) ys ≡ take (n - 1) xs
fewer_used n xs ys same = cc (take-take (n - 1) n ys (omega arith), same, take-take (n - 1) n xs (omega arith))

pub taken_off_like : {A : Type 0} {a b : Stash A} → StashLike a b → StashLike (taken_off a) (taken_off b)
taken_off_like {a} {b} p = search (rules, fewer_used)

-- the values of all stashes
pub used_same : {A : Type 0} (xs ys : List (Stash A)) → length ys ≡ length xs →
    ((k : ℕ) → StashLike (get_or xs k no_stash) (get_or ys k no_stash)) → map used ys ≡ map used xs
used_same [] [] count each = refl
used_same [] (b ∷ ys) count each = absurd (omega (arith, count))
used_same (a ∷ xs) [] count each = absurd (omega (arith, count))
used_same (a ∷ xs) (b ∷ ys) count each =
    cc ((each 0).values, used_same xs ys (omega (arith, count)) (λ k. each (suc k)))

-- parts of which one stash is changed in the same way
pub scalars_alike : (f : Stash ℕ → Stash ℕ) (slot : ℕ) (p q : Parts) → PartsLike p q →
    StashLike (f (get_or p.scalar_stashes slot no_stash)) (f (get_or q.scalar_stashes slot no_stash)) →
    PartsLike (record p { scalar_stashes = at_slot f slot p.scalar_stashes })
    (record q { scalar_stashes = at_slot f slot q.scalar_stashes })
scalars_alike f slot p q like one = grind (arith, common_steps)

pub arrays_alike : (f : Stash Array → Stash Array) (slot : ℕ) (p q : Parts) → PartsLike p q →
    StashLike (f (get_or p.array_stashes slot no_stash)) (f (get_or q.array_stashes slot no_stash)) →
    PartsLike (record p { array_stashes = at_slot f slot p.array_stashes })
    (record q { array_stashes = at_slot f slot q.array_stashes })
arrays_alike f slot p q like one = grind (arith, common_steps)

-- the values of a stash as others
abbrev pub seen : {A B : Type 0} → (A → B) → Stash A → Stash B
seen f s = record { items = map f s.items; depth = s.depth }

seen_at : {A B : Type 0} (f : A → B) (g : Stash A → Stash A) (h : Stash B → Stash B) (slot : ℕ) (xs : List (Stash A)) →
    ((s : Stash A) → seen f (g s) ≡ h (seen f s)) → map (seen f) (at_slot g slot xs) ≡ at_slot h slot (map (seen f) xs)
seen_at f g h slot [] each = refl
seen_at f g h zero (x ∷ xs) each = ap (λ s. s ∷ map (seen f) xs) (each x)
seen_at f g h (suc slot) (x ∷ xs) each = ap (λ l. seen f x ∷ l) (seen_at f g h slot xs each)

seen_put : {A B : Type 0} (f : A → B) (x : A) (s : Stash A) → seen f (put_on x s) ≡ put_on (f x) (seen f s)
seen_put f x s = search (rules, length-map, map-set)

-- if one stash changes, its arrays change in the same way
arrays_seen : (xs : List (KeptStash Kept)) → map arrays_of xs ≡ map (seen array_of) (map stash_in xs)
arrays_seen xs = sym (map-map (seen array_of) stash_in xs)

pub arrays_dropped : (old new : List (KeptStash Kept)) (slot : ℕ) →
    map stash_in new ≡ at_slot taken_off slot (map stash_in old) → map arrays_of new ≡ at_slot taken_off slot (map arrays_of old)
arrays_dropped old new slot is =
    cc (arrays_seen new, is, seen_at array_of taken_off taken_off slot (map stash_in old) (λ s. refl), arrays_seen old)

pub arrays_put : (old new : List (KeptStash Kept)) (slot : ℕ) (x : Kept) →
    map stash_in new ≡ at_slot (put_on x) slot (map stash_in old) →
    map arrays_of new ≡ at_slot (put_on (array_of x)) slot (map arrays_of old)
arrays_put old new slot x is =
    cc (arrays_seen new, is, seen_at array_of (put_on x) (put_on (array_of x)) slot (map stash_in old) (seen_put array_of x), arrays_seen old)

-- a list of equal values, mapped
pub map_replicate : {A B : Type 0} (f : A → B) (n : ℕ) (x : A) → map f (replicate n x) ≡ replicate n (f x)
map_replicate f zero x = refl
map_replicate f (suc n) x = ap (λ l. f x ∷ l) (map_replicate f n x)

pub arrays_empty : (xs : List (KeptStash Kept)) (n : ℕ) → map stash_in xs ≡ replicate n no_stash →
    map arrays_of xs ≡ replicate n no_stash
arrays_empty xs n is = arrays_seen xs ∙ ap (map (seen array_of)) is ∙ map_replicate (seen array_of) n no_stash
