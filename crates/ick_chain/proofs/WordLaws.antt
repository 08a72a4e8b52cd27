-- Proves the order of lists of choices that are kept by numbers.
use Prim.Native.Nat.{zero, suc}
use Rattle.std.proofs.Common.{◌≡◌, ◌⊎◌, inl, inr, ℕ, ◌+◌, ◌-◌, ◌<◌, ◌≤◌, Bool, true, false, List, [], ◌∷◌, ◌++◌}
use Rattle.std.proofs.Common.{Option, Some, None, drop, length, slice_get, slice_index_or, refl, ap, sym, ◌∙◌, subst}
use Rattle.std.proofs.Common.{append_assoc, arith, length-append, not}
use Rattle.std.proofs.lemmas.List.{append-nil}
use Rattle.ick_explorer.specs.Order.{IsBelow}
use Rattle.ick_explorer.proofs.ListingLaws.{below-below}
use Rattle.ick_chain.specs.FirstRuns.{IsNoLater, IsNoMore}
use Rattle.ick_chain.specs.Ways.{IsWay, edge_of}
use Rattle.ick_chain.specs.Words.{Anywhere, AreLeast, AreWords, IsLeastNode, IsNoHigher, IsRisen, IsSooner}
use Rattle.ick_chain.specs.Words.{IsWithin, word, word_at}
use Rattle.ick_chain.specs.Words.{word_by, word_of}
use Rattle.ick_chain.specs.Words.IsWithin.{empty, sooner, same}
use Rattle.ick_chain.specs.declared.chain.Fork.{Fork}
use Rattle.ick_chain.specs.declared.chain.Node.{Node}
use Rattle.ick_chain.specs.declared.words.Labels.{Labels}
use Rattle.ick_chain.specs.declared.words.Word.{Word}

-- the order of lists
below-append : (c d e f : List Bool) → IsBelow c d → IsBelow (c ++ e) (d ++ f)
below-append [] d e f h = absurd h
below-append (x ∷ c) [] e f h = absurd h
below-append (false ∷ c) (false ∷ d) e f h = below-append c d e f h
below-append (true ∷ c) (true ∷ d) e f h = below-append c d e f h
below-append (false ∷ c) (true ∷ d) e f h = tt
below-append (true ∷ c) (false ∷ d) e f h = absurd h

below-turn : (c : List Bool) → IsBelow (c ++ false ∷ []) (c ++ true ∷ [])
below-turn [] = tt
below-turn (false ∷ c) = below-turn c
below-turn (true ∷ c) = below-turn c

pub no_later_same : (c : List Bool) → IsNoLater c c
no_later_same c = inl refl

pub no_later_trans : (c d e : List Bool) → IsNoLater c d → IsNoLater d e → IsNoLater c e
no_later_trans c d e (inl a) k = subst (λ z. IsNoLater z e) (sym a) k
no_later_trans c d e (inr h) (inl a) = inr (subst (IsBelow c) a h)
no_later_trans c d e (inr h) (inr k) = inr (below-below c d e h k)

pub no_later_more : (c d e : List Bool) → IsNoLater c d → IsNoLater (c ++ e) (d ++ e)
no_later_more c d e (inl a) = inl (ap (λ z. z ++ e) a)
no_later_more c d e (inr h) = inr (below-append c d e e h)

pub no_more_same : (c : List Bool) → IsNoMore c c
no_more_same c = inr (refl, inl refl)

pub no_more_trans : (c d e : List Bool) → IsNoMore c d → IsNoMore d e → IsNoMore c e
no_more_trans c d e (inl h) (inl k) = inl (omega (arith, h, k))
no_more_trans c d e (inl h) (inr k) = let l = k.0 in inl (omega (arith, h, l))
no_more_trans c d e (inr h) (inl k) = let l = h.0 in inl (omega (arith, l, k))
no_more_trans c d e (inr h) (inr k) = inr (h.0 ∙ k.0, no_later_trans c d e h.1 k.1)

pub no_more_more : (c d e : List Bool) → IsNoMore c d → IsNoMore (c ++ e) (d ++ e)
no_more_more c d e (inl h) = let a = length-append c e in let b = length-append d e in inl (omega (arith, h, a, b))
no_more_more c d e (inr h) =
    let a = length-append c e in
    let b = length-append d e in
    let l = h.0 in
    inr (omega (arith, l, a, b), no_later_more c d e h.1)

IsLess : List Bool → List Bool → Type 0
IsLess c d = (length c < length d) ⊎ ((length c ≡ length d) × IsBelow c d)

less-snoc : (c d : List Bool) (a b : Bool) → IsLess c d → IsLess (c ++ a ∷ []) (d ++ b ∷ [])
unfolding IsLess
less-snoc c d a b (inl h) =
    let x = length-append c (a ∷ []) in let y = length-append d (b ∷ []) in inl (omega (arith, h, x, y))
less-snoc c d a b (inr h) =
    let x = length-append c (a ∷ []) in
    let y = length-append d (b ∷ []) in
    let l = h.0 in
    inr (omega (arith, l, x, y), below-append c d (a ∷ []) (b ∷ []) h.1)

less-by : (c d : List Bool) → length c < length d → IsLess c d
unfolding IsLess
less-by c d lt = inl lt

less-turn : (c : List Bool) → IsLess (c ++ false ∷ []) (c ++ true ∷ [])
unfolding IsLess
less-turn c =
    let x = length-append c (false ∷ []) in
    let y = length-append c (true ∷ []) in
    inr (omega (arith, x, y), below-turn c)

no-more-of : (c d : List Bool) → IsLess c d → IsNoMore c d
unfolding IsLess
no-more-of c d (inl h) = inl h
no-more-of c d (inr h) = inr (h.0, inr h.1)

-- a list is the one that it grows from and one more choice
fuel : (xs : List Word) → AreWords xs → (f g m : ℕ) → m ≤ f → m ≤ g → word xs f m ≡ word xs g m
unfolding word
fuel xs h zero zero zero a b = refl
fuel xs h zero (suc g) zero a b = refl
fuel xs h (suc f) zero zero a b = refl
fuel xs h (suc f) (suc g) zero a b = refl
fuel xs h zero g (suc m) a b = absurd (let z : ⊥ = omega (arith, a) in z)
fuel xs h (suc f) zero (suc m) a b = absurd (let z : ⊥ = omega (arith, b) in z)
fuel xs h (suc f) (suc g) (suc m) a b = by_got (slice_get xs (suc m)) refl (λ k. fuel xs h f g k)
  where
    by_got : (o : Option Word) → slice_get xs (suc m) ≡ o →
        ((k : ℕ) → k ≤ f → k ≤ g → word xs f k ≡ word xs g k) →
        word_by (slice_get xs (suc m)) (λ q. word xs f q) ≡ word_by (slice_get xs (suc m)) (λ q. word xs g q)
    by_got None e ih =
        ap (λ o. word_by o (λ q. word xs f q)) e ∙ sym (ap (λ o. word_by o (λ q. word xs g q)) e)
    by_got (Some x) e ih =
        let lt = h.back (suc m) x (omega arith) e in
        ap (λ o. word_by o (λ q. word xs f q)) e
        ∙ (ap (λ z. z ++ x.choice ∷ []) (ih x.parent (omega (arith, lt, a)) (omega (arith, lt, b)))
        ∙ sym (ap (λ o. word_by o (λ q. word xs g q)) e))

pub word_is : (xs : List Word) → AreWords xs → (m : ℕ) (x : Word) → 0 < m → slice_get xs m ≡ Some x →
    word_of xs m ≡ word_of xs x.parent ++ x.choice ∷ []
unfolding word
word_is xs h zero x some e = absurd (let z : ⊥ = omega (arith, some) in z)
word_is xs h (suc m) x some e =
    let lt = h.back (suc m) x some e in
    ap (λ o. word_by o (λ q. word xs m q)) e
    ∙ ap (λ z. z ++ x.choice ∷ []) (fuel xs h m x.parent x.parent (omega (arith, lt)) (omega arith))

pub word_empty : (xs : List Word) → word_of xs 0 ≡ []
unfolding word
word_empty xs = refl

-- lists rise with their numbers
sooner-trans : (x y z : Word) → IsSooner x y → IsSooner y z → IsSooner x z
sooner-trans x y z (inl h) (inl k) = inl (omega (arith, h, k))
sooner-trans x y z (inl h) (inr k) = let e = k.0 in inl (omega (arith, h, e))
sooner-trans x y z (inr h) (inl k) = let e = h.0 in inl (omega (arith, e, k))
sooner-trans x y z (inr h) (inr k) = let e : true ≡ false = sym h.2 ∙ k.1 in cc

got-word : (xs : List Word) (i : ℕ) → i < length xs → (x : Word) × (slice_get xs i ≡ Some x)
got-word [] i lt = absurd (let z : ⊥ = omega (arith, lt) in z)
got-word (x ∷ xs) zero lt = (x, refl)
got-word (x ∷ xs) (suc i) lt = got-word xs i (omega (arith, lt))

got-less : (xs : List Word) (i : ℕ) (x : Word) → slice_get xs i ≡ Some x → i < length xs
got-less [] i x h = let z : None ≡ Some x = h in cc
got-less (y ∷ xs) zero x h = omega arith
got-less (y ∷ xs) (suc i) x h = let k = got-less xs i x h in omega (arith, k)

sooner-far : (xs : List Word) → AreWords xs → (m k : ℕ) (x y : Word) → 0 < m → slice_get xs m ≡ Some x →
    slice_get xs (m + k + 1) ≡ Some y → IsSooner x y
sooner-far xs h m zero x y some a b =
    h.rising m x y some a (let e : m + 0 + 1 ≡ m + 1 = omega arith in subst (λ z. slice_get xs z ≡ Some y) e b)
sooner-far xs h m (suc k) x y some a b =
    let e : m + suc k + 1 ≡ m + k + 1 + 1 = omega arith in
    let b' = subst (λ z. slice_get xs z ≡ Some y) e b in
    let lt = got-less xs (m + k + 1 + 1) y b' in
    let z = got-word xs (m + k + 1) (omega (arith, lt)) in
    sooner-trans x z.0 y (sooner-far xs h m k x z.0 some a z.1) (h.rising (m + k + 1) z.0 y (omega arith) z.1 b')

less-words : (xs : List Word) → AreWords xs → (f m n : ℕ) → n ≤ f → m < n → n < length xs →
    IsLess (word_of xs m) (word_of xs n)
less-words xs h zero m n a b c = absurd (let z : ⊥ = omega (arith, a, b) in z)
less-words xs h (suc f) zero n a b c =
    let y = got-word xs n c in
    let e = ap (λ z. length z) (word_is xs h n y.0 b y.1) in
    let l = length-append (word_of xs y.0.parent) (y.0.choice ∷ []) in
    let none = ap (λ z. length z) (word_empty xs) in
    less-by (word_of xs 0) (word_of xs n) (omega (arith, e, l, none))
less-words xs h (suc f) (suc m) n a b c =
    let x = got-word xs (suc m) (omega (arith, b, c)) in
    let y = got-word xs n c in
    let u = word_is xs h (suc m) x.0 (omega arith) x.1 in
    let v = word_is xs h n y.0 (omega (arith, b)) y.1 in
    let e : n ≡ suc m + (n - suc (suc m)) + 1 = omega (arith, b) in
    let s = sooner-far xs h (suc m) (n - suc (suc m)) x.0 y.0 (omega arith) x.1
    (subst (λ z. slice_get xs z ≡ Some y.0) e y.1) in
    let back = h.back n y.0 (omega (arith, b)) y.1 in
    subst (λ z. IsLess z (word_of xs n)) (sym u)
    (subst (λ z. IsLess (word_of xs x.0.parent ++ x.0.choice ∷ []) z) (sym v)
    (by_sooner x.0 y.0 s back (λ i j. less-words xs h f i j)))
  where
    by_sooner : (x y : Word) → IsSooner x y → y.parent < n →
        ((i j : ℕ) → j ≤ f → i < j → j < length xs → IsLess (word_of xs i) (word_of xs j)) →
        IsLess (word_of xs x.parent ++ x.choice ∷ []) (word_of xs y.parent ++ y.choice ∷ [])
    by_sooner x y (inl lt) back ih =
        less-snoc (word_of xs x.parent) (word_of xs y.parent) x.choice y.choice
        (ih x.parent y.parent (omega (arith, back, a)) lt (omega (arith, back, c)))
    by_sooner x y (inr s) back ih =
        subst (λ z. IsLess (word_of xs x.parent ++ z ∷ []) (word_of xs y.parent ++ y.choice ∷ [])) (sym s.1)
        (subst (λ z. IsLess (word_of xs x.parent ++ false ∷ []) (word_of xs y.parent ++ z ∷ [])) (sym s.2)
        (subst (λ z. IsLess (word_of xs x.parent ++ false ∷ []) (word_of xs z ++ true ∷ [])) s.0
        (less-turn (word_of xs x.parent))))

-- a list with a lower number is no more
pub no_more_below : (xs : List Word) → AreWords xs → (m n : ℕ) → m ≤ n → n < length xs →
    IsNoMore (word_of xs m) (word_of xs n)
no_more_below xs h m n le lt = by_place (split m n le)
  where
    split : (m n : ℕ) → m ≤ n → (m < n) ⊎ (m ≡ n)
    split zero zero le = inr refl
    split zero (suc n) le = inl (omega arith)
    split (suc m) zero le = absurd (let z : ⊥ = omega (arith, le) in z)
    split (suc m) (suc n) le = elim (split m n (omega (arith, le))) [
      | inl a ↦ inl (omega (arith, a))
      | inr a ↦ inr (ap suc a)
    ]

    by_place : (m < n) ⊎ (m ≡ n) → IsNoMore (word_of xs m) (word_of xs n)
    by_place (inl a) = no-more-of (word_of xs m) (word_of xs n) (less-words xs h n m n (omega arith) a lt)
    by_place (inr a) = subst (λ z. IsNoMore (word_of xs m) (word_of xs z)) a (no_more_same (word_of xs m))

pub no_more_within : (xs : List Word) → AreWords xs → (to from : ℕ) (b : Bool) → from < length xs →
    IsWithin xs to from b → IsNoMore (word_of xs to) (word_of xs from ++ b ∷ [])
no_more_within xs h to from b lt (empty e) =
    let l = length-append (word_of xs from) (b ∷ []) in
    let none = ap (λ z. length z) (ap (word_of xs) e ∙ word_empty xs) in
    inl (omega (arith, l, none))
no_more_within xs h to from b lt (sooner x some g below) =
    subst (λ z. IsNoMore z (word_of xs from ++ b ∷ [])) (sym (word_is xs h to x some g))
    (no-more-of (word_of xs x.parent ++ x.choice ∷ []) (word_of xs from ++ b ∷ [])
    (less-snoc (word_of xs x.parent) (word_of xs from) x.choice b
    (less-words xs h from x.parent from (omega arith) below lt)))
no_more_within xs h to from b lt (same x some g is k) =
    subst (λ z. IsNoMore z (word_of xs from ++ b ∷ [])) (sym (word_is xs h to x some g))
    (subst (λ z. IsNoMore (word_of xs z ++ x.choice ∷ []) (word_of xs from ++ b ∷ [])) (sym is) (by_choice k))
  where
    by_choice : IsNoHigher x.choice b → IsNoMore (word_of xs from ++ x.choice ∷ []) (word_of xs from ++ b ∷ [])
    by_choice (inl e) =
        subst (λ z. IsNoMore (word_of xs from ++ x.choice ∷ []) (word_of xs from ++ z ∷ [])) e
        (no_more_same (word_of xs from ++ x.choice ∷ []))
    by_choice (inr e) =
        subst (λ z. IsNoMore (word_of xs from ++ z ∷ []) (word_of xs from ++ b ∷ [])) (sym e.0)
        (subst (λ z. IsNoMore (word_of xs from ++ false ∷ []) (word_of xs from ++ z ∷ [])) (sym e.1)
        (no-more-of (word_of xs from ++ false ∷ []) (word_of xs from ++ true ∷ []) (less-turn (word_of xs from))))

-- one list after another
got-at : (xs : List Word) (n : ℕ) (x y : Word) → x ≡ slice_index_or xs n x → slice_get xs n ≡ Some y → x ≡ y
got-at [] n x y e h = let z : None ≡ Some y = h in cc
got-at (w ∷ xs) zero x y e h = let z : w ≡ y = cc in e ∙ z
got-at (w ∷ xs) (suc n) x y e h = got-at xs n x y e h

got-in : (xs : List Word) (n : ℕ) (x : Word) → n < length xs → x ≡ slice_index_or xs n x → slice_get xs n ≡ Some x
got-in [] n x lt e = absurd (let z : ⊥ = omega (arith, lt) in z)
got-in (w ∷ xs) zero x lt e = ap Some (sym e)
got-in (w ∷ xs) (suc n) x lt e = got-in xs n x (omega (arith, lt)) e

pub risen_first : (xs : List Word) (n : ℕ) (x : Word) → x ≡ slice_index_or xs n x → x.parent < n → n < 2 →
    IsRisen xs n
risen_first xs n x e lt few = record {
  back = λ y h. let i = ap (λ (z : Word). z.parent) (got-at xs n x y e h) in omega (arith, lt, i);
  rising = λ m y z some next g h. absurd (let w : ⊥ = omega (arith, few, some, next) in w);
}

pub risen_more : (xs : List Word) (n : ℕ) (v x : Word) → x ≡ slice_index_or xs n x → x.parent < n → 2 ≤ n →
    v ≡ slice_index_or xs (n - 1) v → IsSooner v x → IsRisen xs n
risen_more xs n v x e lt many f h = record {
  back = λ y k. let i = ap (λ (z : Word). z.parent) (got-at xs n x y e k) in omega (arith, lt, i);
  rising = λ m y z some next g k.
      let is : m ≡ n - 1 = omega (arith, next) in
      let a : v ≡ y = got-at xs (n - 1) v y f (subst (λ i. slice_get xs i ≡ Some y) is g) in
      subst (λ w. IsSooner w z) a (subst (λ w. IsSooner v w) (got-at xs n x z e k) h);
}

-- the lists before an index rise
abbrev pub AreRisenBelow : List Word → ℕ → Type 0
AreRisenBelow xs n = (m : ℕ) → 0 < m → m < n → IsRisen xs m

pub risen_next : (xs : List Word) (n : ℕ) → IsRisen xs n → AreRisenBelow xs n → AreRisenBelow xs (n + 1)
risen_next xs n h f m some lt = by_place (place m n lt)
  where
    place : (i n : ℕ) → i < n + 1 → (i < n) ⊎ (i ≡ n)
    place zero zero lt = inr refl
    place zero (suc n) lt = inl (omega arith)
    place (suc i) zero lt = absurd (let z : ⊥ = omega (arith, lt) in z)
    place (suc i) (suc n) lt = elim (place i n (omega (arith, lt))) [
      | inl a ↦ inl (omega (arith, a))
      | inr a ↦ inr (ap suc a)
    ]

    by_place : (m < n) ⊎ (m ≡ n) → IsRisen xs m
    by_place (inl a) = f m some a
    by_place (inr a) = subst (IsRisen xs) (sym a) h

pub words_risen : (xs : List Word) (n : ℕ) → length xs ≤ n → AreRisenBelow xs n → AreWords xs
words_risen xs n le f = record {
  back = λ m x some g. let lt = got-less xs m x g in (f m some (omega (arith, lt, le))).back x g;
  rising = λ m x y some g h.
      let lt = got-less xs (m + 1) y h in
      (f (m + 1) (omega arith) (omega (arith, lt, le))).rising m x y some refl g h;
}

-- choices from behind
got-or : (xs : List Word) (n : ℕ) (d : Word) → n < length xs → slice_get xs n ≡ Some (slice_index_or xs n d)
got-or [] n d lt = absurd (let z : ⊥ = omega (arith, lt) in z)
got-or (w ∷ xs) zero d lt = refl
got-or (w ∷ xs) (suc n) d lt = got-or xs n d (omega (arith, lt))

drop-from : (cs : List Bool) (n : ℕ) → n < length cs → drop n cs ≡ slice_index_or cs n false ∷ drop (suc n) cs
drop-from [] n lt = absurd (let z : ⊥ = omega (arith, lt) in z)
drop-from (c ∷ cs) zero lt = refl
drop-from (c ∷ cs) (suc n) lt = drop-from cs n (omega (arith, lt))

-- one choice more from behind
pub word_back : (xs : List Word) → AreWords xs → (at : ℕ) (d : Word) → 0 < at → at < length xs → (cs : List Bool)
    (back : ℕ) → back < length cs → (slice_index_or xs at d).choice ≡ slice_index_or cs (length cs - 1 - back) false →
    (w : List Bool) → w ≡ word_of xs at ++ drop (length cs - back) cs →
    w ≡ word_of xs (slice_index_or xs at d).parent ++ drop (length cs - (back + 1)) cs
word_back xs h at d some lt cs back lb like w is =
    let x = slice_index_or xs at d in
    let n = length cs - (back + 1) in
    let e : length cs - back ≡ suc n = omega (arith, lb) in
    let f : length cs - 1 - back ≡ n = omega (arith, lb) in
    let ln : n < length cs = omega (arith, lb) in
    let c : x.choice ≡ slice_index_or cs n false = like ∙ ap (λ z. slice_index_or cs z false) f in
    let a : w ≡ word_of xs at ++ drop (suc n) cs = is ∙ ap (λ z. word_of xs at ++ drop z cs) e in
    let b : word_of xs at ++ drop (suc n) cs ≡ (word_of xs x.parent ++ x.choice ∷ []) ++ drop (suc n) cs =
    ap (λ z. z ++ drop (suc n) cs) (word_is xs h at x some (got-or xs at d lt)) in
    let k : word_of xs x.parent ++ (x.choice ∷ drop (suc n) cs) ≡ word_of xs x.parent ++ drop n cs =
    ap (λ z. word_of xs x.parent ++ z) (ap (λ z. z ∷ drop (suc n) cs) c ∙ sym (drop-from cs n ln)) in
    a ∙ (b ∙ (append_assoc (word_of xs x.parent) (x.choice ∷ []) (drop (suc n) cs) ∙ k))

pub word_begin : (xs : List Word) (number : ℕ) (cs : List Bool) (n : ℕ) → length cs ≤ n →
    word_of xs number ≡ word_of xs number ++ drop n cs
word_begin xs number cs n le =
    sym (ap (λ z. word_of xs number ++ z) (drop-all cs n le) ∙ append-nil (word_of xs number))
  where
    drop-all : (cs : List Bool) (n : ℕ) → length cs ≤ n → drop n cs ≡ []
    drop-all [] zero le = refl
    drop-all [] (suc n) le = refl
    drop-all (c ∷ cs) zero le = absurd (let z : ⊥ = omega (arith, le) in z)
    drop-all (c ∷ cs) (suc n) le = drop-all cs n (omega (arith, le))

pub word_end : (xs : List Word) (at : ℕ) (cs : List Bool) (n : ℕ) (w : List Bool) → at ≡ 0 → n ≡ 0 →
    w ≡ word_of xs at ++ drop n cs → w ≡ cs
word_end xs at cs n w e z h =
    h ∙ (ap (λ i. word_of xs i ++ drop n cs) e ∙ (ap (λ i. word_of xs 0 ++ drop i cs) z
    ∙ (ap (λ i. i ++ drop 0 cs) (word_empty xs) ∙ drop-none cs)))
  where
    drop-none : (cs : List Bool) → drop 0 cs ≡ cs
    drop-none [] = refl
    drop-none (c ∷ cs) = refl

-- what the checks find
no_higher_true : (x b : Bool) → b ≡ true → IsNoHigher x b
no_higher_true true b e = inl (sym e)
no_higher_true false b e = inr (refl, e)

no_higher_not : (x b : Bool) → not x ≡ true → IsNoHigher x b
no_higher_not true b e = let z : false ≡ true = e in cc
no_higher_not false true e = inr (refl, refl)
no_higher_not false false e = inl refl

pub sooner_within : (xs : List Word) (to from : ℕ) (b : Bool) (d : Word) → 0 < to → to < length xs →
    (slice_index_or xs to d).parent < from → IsWithin xs to from b
sooner_within xs to from b d some lt below = sooner (slice_index_or xs to d) some (got-or xs to d lt) below

pub same_within_true : (xs : List Word) (to from : ℕ) (b : Bool) (d : Word) → 0 < to → to < length xs →
    (slice_index_or xs to d).parent ≡ from → b ≡ true → IsWithin xs to from b
same_within_true xs to from b d some lt is e =
    same (slice_index_or xs to d) some (got-or xs to d lt) is (no_higher_true (slice_index_or xs to d).choice b e)

pub same_within_not : (xs : List Word) (to from : ℕ) (b : Bool) (d : Word) → 0 < to → to < length xs →
    (slice_index_or xs to d).parent ≡ from → not (slice_index_or xs to d).choice ≡ true → IsWithin xs to from b
same_within_not xs to from b d some lt is e =
    same (slice_index_or xs to d) some (got-or xs to d lt) is (no_higher_not (slice_index_or xs to d).choice b e)

module _ (labels : Labels) (h : AreWords labels.words.items) (at : ℕ) (f : Fork) (from zero : ℕ)
    (is_from : from ≡ slice_index_or labels.of.items at 0) (is_zero : zero ≡ slice_index_or labels.of.items f.zero.to 0)
    (lt : from < length labels.words.items) where
  pub way_plain : f.chance ≡ 0 → zero ≤ from → IsWay Anywhere IsNoMore (word_at labels) at f
  way_plain none le = record {
    plain_way = λ c g. (
      tt,
      subst (λ z. IsNoMore (word_of labels.words.items z) (word_at labels at)) is_zero
          (subst (λ z. IsNoMore (word_of labels.words.items zero) (word_of labels.words.items z)) is_from
          (no_more_below labels.words.items h zero from le lt)),
    );
    choice_way = λ some b g. absurd (some none);
  }

  pub way_choice : (one : ℕ) → one ≡ slice_index_or labels.of.items f.one.to 0 → (f.chance ≡ 0 → ⊥) →
      IsWithin labels.words.items zero from false → IsWithin labels.words.items one from true →
      IsWay Anywhere IsNoMore (word_at labels) at f
  way_choice one is_one some a b = record {
    plain_way = λ c g. absurd (some c);
    choice_way = λ c d g. (tt, by_choice d);
  }
    where
      by_choice : (d : Bool) → IsNoMore (word_at labels (edge_of f d).to) (word_at labels at ++ d ∷ [])
      by_choice false =
          subst (λ z. IsNoMore (word_of labels.words.items z) (word_at labels at ++ false ∷ [])) is_zero
          (subst (λ z. IsNoMore (word_of labels.words.items zero) (word_of labels.words.items z ++ false ∷ [])) is_from
          (no_more_within labels.words.items h zero from false lt a))
      by_choice true =
          subst (λ z. IsNoMore (word_of labels.words.items z) (word_at labels at ++ true ∷ [])) is_one
          (subst (λ z. IsNoMore (word_of labels.words.items one) (word_of labels.words.items z ++ true ∷ [])) is_from
          (no_more_within labels.words.items h one from true lt b))

-- all nodes were looked at
pub least_all : (nodes : List Node) (labels : Labels) (n first : ℕ) → first ≡ slice_index_or labels.of.items 0 0 →
    first ≡ 0 → length nodes ≤ n →
    ((i : ℕ) (m : Node) → i < n → slice_get nodes i ≡ Some m → IsLeastNode labels i m) → AreLeast nodes labels
least_all nodes labels n first is none le f = record {
  first = ap (word_of labels.words.items) (sym is ∙ none) ∙ word_empty labels.words.items;
  each = λ i m g. let lt = within nodes i m g in f i m (omega (arith, lt, le)) g;
}
  where
    within : (xs : List Node) (i : ℕ) (x : Node) → slice_get xs i ≡ Some x → i < length xs
    within [] i x h = let z : None ≡ Some x = h in cc
    within (y ∷ xs) zero x h = omega arith
    within (y ∷ xs) (suc i) x h = let k = within xs i x h in omega (arith, k)
