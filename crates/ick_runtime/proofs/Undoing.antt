-- Changes noted, and undone.
use Rattle.std.proofs.Common.{[], ap, arith, drop, get_or, length, List, refl, rules, subst, sym, take, ℕ, ◌++◌, ◌+◌, ◌<◌, ◌∙◌, ◌∷◌, ◌≡◌, ◌≤◌}
use Rattle.ick_runtime.proofs.Names.{Array, array_was, at_slot, Change, common_steps, drop_of_length-le, get_or-set_same, HighSame, length-take-le, Like}
use Rattle.ick_runtime.proofs.Names.{no_array, Parts, PartsLike, put_on, reverse-append, set-get_or, set-set, slice_set, take-append-drop, undone, View}
use Rattle.ick_runtime.{proofs.Names.with_arrays, specs.Undo.{statuses_were, with_number}}
use Rattle.ick_runtime.proofs.StashLemmas.{arrays_alike, parts_refl, scalars_alike, taken_off_like}
use Rattle.ick_runtime.specs.Undo.{change_of, home_was, IsUndoable, no_change, register_was, return_was, Rewinds, rewound, SameFirst, status_was}
use Rattle.ick_runtime.specs.declared.change.Entry.TheVariants as entry
use Rattle.std.{proofs.lemmas.List.drop-append-le, specs.Prelude.reverse}

-- lists of which the first numbers are the same
first_refl : (n : ℕ) (xs : List ℕ) → SameFirst n xs xs
first_refl n xs = record { count = refl; same = λ k low. refl }

-- the next number goes back
first_more : (at n : ℕ) (xs ys : List ℕ) → n ≡ at + 1 → at < length xs → SameFirst at xs ys →
    SameFirst n xs (slice_set ys at (get_or xs at 0))
first_more at n xs ys next there s = search rules

-- views that are alike
pub alike : {base deep : ℕ} {v w : View} → SameFirst base v.registers w.registers → w.store_target ≡ v.store_target →
    w.statuses ≡ v.statuses → PartsLike v.parts w.parts → SameFirst deep v.returns w.returns → Like base deep v w
alike registers store_target statuses parts returns = search rules

pub like_refl : (base deep : ℕ) (v : View) → Like base deep v v
like_refl base deep v = alike (first_refl base v.registers) refl refl (parts_refl v.parts) (first_refl deep v.returns)

pub like_moved : {base deep : ℕ} {v w : View} (place depth : ℕ) → Like base deep v w →
    Like base deep v (record w { place = place; depth = depth })
like_moved place depth a = alike a.registers a.store_target a.statuses a.parts a.returns

with_parts : {base deep : ℕ} {v w : View} {p q : Parts} → Like base deep v w → PartsLike p q →
    Like base deep (record v { parts = p }) (record w { parts = q })
with_parts l parts = alike l.registers l.store_target l.statuses parts l.returns

-- what can be undone from a view can be undone from each one like it
pub alike_rewinds : {base low k : ℕ} {changes : List Change} {v w m : View} → Like base low v w →
    Rewinds base changes low k v m → Rewinds base changes low k w m
alike_rewinds a h = search rules

-- the newest change is undone first
pub newest_first : (changes : List Change) (change : Change) (k : ℕ) → k ≤ length changes →
    reverse (drop k (changes ++ change ∷ [])) ≡ change ∷ reverse (drop k changes)
newest_first changes change k within = search (rules, drop-append-le, reverse-append)

-- a return address that is pushed changes nothing below its depth
pub pushed_like : (base low depth place : ℕ) (v : View) → low ≤ depth →
    Like base low v (record v { returns = slice_set v.returns depth place })
pushed_like base low depth place v above = search rules

-- a change that is undone first
noted : (base : ℕ) (changes : List Change) (low low' k : ℕ) (change : Change) (u v m : View) →
    Rewinds base changes low k v m →
    ((w : View) → Like base low' u w → Like base low v (undone change w) × HighSame base w (undone change w)) →
    Rewinds base (changes ++ change ∷ []) low' k u m
noted base changes low low' k change u v m h back = grind (arith, common_steps)

-- a change is none of a register from a number on
abbrev pub IsBelow : (base : ℕ) → Change → Type 0
IsBelow base (change_of (entry.Register at old)) = at < base
IsBelow base (change_of (entry.ScalarRestored slot number old)) = slot < base
IsBelow base other = Unit {0}

-- views that are alike are so after a change of both is undone
pub undone_like : (base low : ℕ) (change : Change) (v w : View) → IsBelow base change → IsUndoable change v → Like base low v w →
    Like base low (undone change v) (undone change w)
undone_like base low (change_of (entry.Register at old)) v w below can l = grind (arith, common_steps)
undone_like base low (change_of (entry.Home at old)) v w below can l = search rules
undone_like base low (change_of (entry.Status at old)) v w below can l = search rules
undone_like base low (change_of (entry.Return at old)) v w below can l = grind (arith, common_steps)
undone_like base low (change_of (entry.Element slot at old)) v w below can l = search rules
undone_like base low (change_of (entry.Hidden slot old)) v w below can l = search rules
undone_like base low (change_of (entry.ScalarSaved slot)) v w below can l = grind (arith, common_steps, scalars_alike, taken_off_like, with_parts)
undone_like base low (change_of (entry.ScalarTaken slot number)) v w below can l = grind (arith, common_steps)
undone_like base low (change_of (entry.ScalarRestored slot number old)) v w below can l = grind (arith, common_steps)
undone_like base low (change_of (entry.ArraySaved slot)) v w below can l = grind (arith, common_steps, arrays_alike, taken_off_like, with_parts)
undone_like base low (array_was change slot old) v w below can l = grind (arith, common_steps)
undone_like base low (statuses_were old) v w below can l = alike l.registers l.store_target refl l.parts l.returns
undone_like base low (change_of (entry.Taken old)) v w below can l = search rules
undone_like base low (change_of (entry.Output count)) v w below can l = search rules
undone_like base low (change_of (entry.Last old)) v w below can l = search rules
undone_like base low (change_of (entry.LastIn old)) v w below can l = search rules
undone_like base low (change_of (entry.Array change slot)) v w below can l = l
undone_like base low (change_of entry.Statuses) v w below can l = l
undone_like base low no_change v w below can l = l

undone_high : (base : ℕ) (change : Change) (w : View) → IsBelow base change → HighSame base w (undone change w)
undone_high = search rules

-- a change that was noted
pub notes_back : (base : ℕ) (changes : List Change) (low k : ℕ) (change : Change) (v m : View) → IsBelow base change →
    IsUndoable change v → Rewinds base changes low k (undone change v) m →
    Rewinds base (changes ++ change ∷ []) low k v m
notes_back base changes low k change v m below can h = search (rules, noted, undone_high, undone_like)

pub put_back : (xs : List ℕ) (at n : ℕ) → slice_set (slice_set xs at n) at (get_or xs at 0) ≡ xs
put_back xs at n = set-set xs at n (get_or xs at 0) ∙ set-get_or xs at 0

-- undoing the change of a register, of a store_target and of a status
pub register_back : (at number : ℕ) (registers : List ℕ) (v : View) → v.registers ≡ registers →
    undone (register_was at (get_or registers at 0)) (record v { registers = slice_set registers at number }) ≡ v
register_back at number registers v same = search (rules, put_back)

pub home_back : (at number : ℕ) (v : View) →
    undone (home_was at (get_or v.store_target at 0)) (record v { store_target = slice_set v.store_target at number }) ≡ v
home_back at number v = ap {A = List ℕ} (λ l. record v { store_target = l }) (put_back v.store_target at number)

pub status_back : (at number : ℕ) (v : View) →
    undone (status_was at (get_or v.statuses at 0)) (record v { statuses = slice_set v.statuses at number }) ≡ v
status_back at number v = ap {A = List ℕ} (λ l. record v { statuses = l }) (put_back v.statuses at number)

-- a number that was taken off a stash, and that the scalar may have now
pub restored_back : (base low slot number : ℕ) (registers after : List ℕ) (v : View) (p : Parts) →
    v.registers ≡ registers → slice_set after slot (get_or registers slot 0) ≡ registers →
    PartsLike v.parts (record p { scalar_stashes = at_slot (put_on number) slot p.scalar_stashes }) →
    Like base low v (undone (change_of (entry.ScalarRestored slot number (get_or registers slot 0))) (record v { registers = after; parts = p }))
restored_back base low slot number registers after v p same back parts = grind (arith, common_steps)

-- a register that is never restored stays as it is
pub register_left : (base low at old : ℕ) (v : View) → base ≤ at → Like base low (undone (register_was at old) v) v
register_left base low at old v above = search rules

pub restored_left : (base low slot number old : ℕ) (v : View) → base ≤ slot →
    Like base low (undone (change_of (entry.ScalarRestored slot number old)) v) (undone (change_of (entry.ScalarTaken slot number)) v)
restored_left base low slot number old v above = grind (arith, common_steps)

-- a register of which the newest change was noted
pub keeps_register : (base : ℕ) (changes older : List Change) (low k at old was : ℕ) (v m : View) → at < base →
    changes ≡ older ++ register_was at was ∷ [] → k ≤ length older →
    Rewinds base changes low k (undone (register_was at old) v) m → Rewinds base changes low k v m
keeps_register base changes older low k at old was v m below is few h = record {
  within = h.within;
  leads = λ w like. subst (Like base m.depth m) (same w) (h.leads (before w) (back w like));
  stays = λ w like r high. rw (← same w) (h.stays (before w) (back w like) r high ∙ undone_high base change w below r high);
}
  where
    change : Change
    change = register_was at old

    before : View → View
    before w = undone change w

    back : (w : View) → Like base low v w → Like base low (before v) (before w)
    back w like = undone_like base low change v w below tt like

    first : reverse (drop k changes) ≡ register_was at was ∷ reverse (drop k older)
    first = ap (λ l. reverse (drop k l)) is ∙ newest_first older (register_was at was) k few

    same : (w : View) → rewound (reverse (drop k changes)) (before w) ≡ rewound (reverse (drop k changes)) w
    same w = search (rules, before, first, set-set)

-- an element
element_same : (arrays : List Array) (slot at number : ℕ) → slot < length arrays →
    with_number (with_number arrays slot at number) slot at (get_or (get_or arrays slot no_array).elements at 0) ≡ arrays
element_same arrays slot at number there = search (rules, get_or-set_same, put_back, set-get_or, set-set)

pub element_back : (slot at number : ℕ) (arrays : List Array) (v : View) → v.parts.arrays ≡ arrays →
    slot < length arrays →
    undone (change_of (entry.Element slot at (get_or (get_or arrays slot no_array).elements at 0)))
    (with_arrays (with_number arrays slot at number) v) ≡ v
element_back slot at number arrays v same there = search (rules, element_same)

-- the return address below the depth is noted
pub notes_return : (base : ℕ) (changes : List Change) (low at k : ℕ) (v m : View) → low ≡ at + 1 →
    at < length v.returns → Rewinds base changes low k v m →
    Rewinds base (changes ++ return_was at (get_or v.returns at 0) ∷ []) at k v m
notes_return base changes low at k v m next there h = grind (arith, common_steps, alike, first_more, noted)

-- a mark
pub marks_here : (base : ℕ) (changes : List Change) (v : View) → Rewinds base changes v.depth (length changes) v v
marks_here base changes v = grind (arith, common_steps)

-- the newest change undone, and all of them
pub undone_one : (P : View → Type 0) (changes rest : List Change) (change : Change) (k : ℕ) (v w : View) →
    changes ≡ rest ++ change ∷ [] → k ≤ length rest → w ≡ undone change v →
    P (rewound (reverse (drop k changes)) v) → P (rewound (reverse (drop k rest)) w)
undone_one P changes rest change k v w are within is h = grind (arith, common_steps)

pub all_undone : (P : View → Type 0) (changes : List Change) (k : ℕ) (v : View) → length changes ≤ k →
    P (rewound (reverse (drop k changes)) v) → P v
all_undone P changes k v few h = subst (λ es. P (rewound (reverse es) v)) (drop_of_length-le changes few) h

rewound-append : (xs ys : List Change) (v : View) → rewound (xs ++ ys) v ≡ rewound ys (rewound xs v)
rewound-append [] ys v = refl
rewound-append (x ∷ xs) ys v = rewound-append xs ys (undone x v)

-- the newest mark is dropped: what was noted since it leads on to the older one
pub composed : (base : ℕ) (changes : List Change) (low k j : ℕ) (v m n : View) → Rewinds base changes low k v m →
    Rewinds base (take k changes) m.depth j m n → Rewinds base changes low j v n
composed base changes low k j v m n h below = record {
  within = omega (arith, below.within, length-take-le k changes h.within, h.within);
  leads = λ w like.
      subst (Like base n.depth n) (sym (order w)) (below.leads (rewound (reverse (drop k changes)) w) (h.leads w like));
  stays = λ w like r high. rw (order w)
      (below.stays (rewound (reverse (drop k changes)) w) (h.leads w like) r high ∙ h.stays w like r high);
}
  where
    order : (w : View) →
        rewound (reverse (drop j changes)) w
        ≡ rewound (reverse (drop j (take k changes))) (rewound (reverse (drop k changes)) w)
    order w = ap (λ es. rewound (reverse es) w)
        (ap (drop j) (sym (take-append-drop k changes)) ∙ drop-append-le j (take k changes) (drop k changes) below.within)
        ∙ ap (λ es. rewound es w) (reverse-append (drop j (take k changes)) (drop k changes))
        ∙ rewound-append (reverse (drop k changes)) (reverse (drop j (take k changes))) w
