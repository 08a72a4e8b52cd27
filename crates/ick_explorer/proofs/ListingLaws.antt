-- Laws of listings: each position has exactly one, and it goes on by the least list.
use Rattle.std.proofs.Common.{◌≡◌, ℕ, suc, zero, ◌⊎◌, inl, inr, Bool, true, false, List, [], ◌∷◌}
use Rattle.std.proofs.Common.{map, refl, ap, sym, ◌∙◌, subst, arith}
use Rattle.std.proofs.lemmas.List.{map-id}
use Rattle.std.specs.Prelude.{Option, Some, None}
use Rattle.std.specs.List.{Contains}
use Rattle.ick_backtrack.specs.Machine.{Program}
use Rattle.ick_code.specs.meaning.State.{State}
use Rattle.ick_explorer.specs.Runs.{IsWhole}
use Rattle.ick_explorer.specs.Order.{IsBelow, IsAfter, IsIncreasing}
use Rattle.ick_explorer.specs.Listings.{IsListing, IsLeastAfter, IsLast}

pub contains-nil : {A : Type 0} (x : A) → Contains [] x → ⊥
contains-nil x (k, lt, e) = omega arith

pub contains-head : {A : Type 0} (x : A) (xs : List A) → Contains (x ∷ xs) x
contains-head x xs = (0, omega arith, refl)

pub contains-tail : {A : Type 0} (x y : A) (xs : List A) → Contains xs y → Contains (x ∷ xs) y
contains-tail x y xs (k, lt, e) = (suc k, omega arith, e)

pub contains-cases : {A : Type 0} (x y : A) (xs : List A) → Contains (x ∷ xs) y → (x ≡ y) ⊎ Contains xs y
contains-cases x y xs (zero, lt, e) = inl e
contains-cases x y xs (suc k, lt, e) = inr (k, omega arith, e)

pub not_below_itself : (c : List Bool) → IsBelow c c → ⊥
not_below_itself [] h = h
not_below_itself (false ∷ c) h = not_below_itself c h
not_below_itself (true ∷ c) h = not_below_itself c h

pub below_one_way : (c d : List Bool) → IsBelow c d → IsBelow d c → ⊥
below_one_way [] d h k = h
below_one_way (x ∷ c) [] h k = h
below_one_way (false ∷ c) (false ∷ d) h k = below_one_way c d h k
below_one_way (true ∷ c) (true ∷ d) h k = below_one_way c d h k
below_one_way (false ∷ c) (true ∷ d) h k = k
below_one_way (true ∷ c) (false ∷ d) h k = h

pub below-below : (c d e : List Bool) → IsBelow c d → IsBelow d e → IsBelow c e
below-below [] d e h k = absurd h
below-below (x ∷ c) [] e h k = absurd h
below-below (x ∷ c) (y ∷ d) [] h k = absurd k
below-below (false ∷ c) (false ∷ d) (false ∷ e) h k = below-below c d e h k
below-below (true ∷ c) (true ∷ d) (true ∷ e) h k = below-below c d e h k
below-below (false ∷ c) (false ∷ d) (true ∷ e) h k = tt
below-below (false ∷ c) (true ∷ d) (true ∷ e) h k = tt
below-below (false ∷ c) (true ∷ d) (false ∷ e) h k = absurd k
below-below (true ∷ c) (true ∷ d) (false ∷ e) h k = absurd k
below-below (true ∷ c) (false ∷ d) e h k = absurd h

pub after-below : (from : Option (List Bool)) (d e : List Bool) → IsAfter from d → IsBelow d e → IsAfter from e
after-below None d e h k = tt
after-below (Some c) d e h k = below-below c d e h k

-- if a list has an element, the list of the keys has its key
pub contains-key : {A B : Type 0} (key : A → B) (xs : List A) (x : A) → Contains xs x →
    Contains (map key xs) (key x)
contains-key key [] x m = absurd (contains-nil x m)
contains-key key (y ∷ xs) x m = elim (contains-cases y x xs m) [
  | inl e ↦ subst (λ z. Contains (map key (y ∷ xs)) (key z)) e (contains-head (key y) (map key xs))
  | inr n ↦ contains-tail (key y) (key x) (map key xs) (contains-key key xs x n)
]

-- two lists with the same members are the same, if the keys in each are increasing
pub increasing_unique : {A : Type 0} (key : A → List Bool) (xs ys : List A) → IsIncreasing (map key xs) →
    IsIncreasing (map key ys) → ((a : A) → Contains xs a → Contains ys a) →
    ((a : A) → Contains ys a → Contains xs a) → xs ≡ ys
increasing_unique key [] [] u v f g = refl
increasing_unique key [] (y ∷ ys) u v f g = absurd (contains-nil y (g y (contains-head y ys)))
increasing_unique key (x ∷ xs) [] u v f g = absurd (contains-nil x (f x (contains-head x xs)))
increasing_unique key (x ∷ xs) (y ∷ ys) u v f g =
    let same : x ≡ y = elim (contains-cases y x ys (f x (contains-head x xs))) [
      | inl e ↦ sym e
      | inr h ↦ elim (contains-cases x y xs (g y (contains-head y ys))) [
        | inl e ↦ e
        | inr k ↦ absurd (below_one_way (key x) (key y) (u.0 (key y) (contains-key key xs y k))
            (v.0 (key x) (contains-key key ys x h)))
      ]
    ] in
    ap (λ zs. x ∷ zs) (increasing_unique key xs ys u.1 v.1
    (λ a h. elim (contains-cases y a ys (f a (contains-tail x a xs h))) [
      | inr k ↦ k
      | inl e ↦ absurd (not_below_itself (key x) (subst (λ z. IsBelow (key x) (key z)) (sym (same ∙ e))
          (u.0 (key a) (contains-key key xs a h))))
    ])
    (λ a h. elim (contains-cases x a xs (g a (contains-tail y a ys h))) [
      | inr k ↦ k
      | inl e ↦ absurd (not_below_itself (key y) (subst (λ z. IsBelow (key y) (key z)) (sym (sym same ∙ e))
          (v.0 (key a) (contains-key key ys a h))))
    ]))
    ∙ ap (λ z. z ∷ ys) same

-- two increasing lists with the same members are the same
pub lists_unique : (xs ys : List (List Bool)) → IsIncreasing xs → IsIncreasing ys →
    ((c : List Bool) → Contains xs c → Contains ys c) → ((c : List Bool) → Contains ys c → Contains xs c) →
    xs ≡ ys
lists_unique xs ys u v = increasing_unique (λ c. c) xs ys (subst IsIncreasing (sym (map-id xs)) u)
    (subst IsIncreasing (sym (map-id ys)) v)

-- a position has at most one listing
pub listing_unique : (p : Program) (s : State) (l : ℕ) (from : Option (List Bool)) (xs ys : List (List Bool)) →
    IsListing p s l from xs → IsListing p s l from ys → xs ≡ ys
listing_unique p s l from xs ys u v = lists_unique xs ys u.increasing v.increasing
    (λ c h. v.complete c (u.sound c h).0 (u.sound c h).1)
    (λ c h. u.complete c (v.sound c h).0 (v.sound c h).1)

-- with nothing after the position the listing is empty
pub listing-last : (p : Program) (s : State) (l : ℕ) (from : Option (List Bool)) → IsLast p s l from →
    IsListing p s l from []
listing-last p s l from h = record {
  increasing = tt;
  sound = λ c k. absurd (contains-nil c k);
  complete = λ c w a. absurd (h c w a);
}

-- the least list stands first, and the listing after it is the rest
pub listing-least : (p : Program) (s : State) (l : ℕ) (from : Option (List Bool)) (d : List Bool) (rest : List (List
    Bool)) → IsLeastAfter p s l from d → IsListing p s l (Some d) rest → IsListing p s l from (d ∷ rest)
listing-least p s l from d rest h u = record {
  increasing = (λ e k. (u.sound e k).1, u.increasing);
  sound = λ c k. elim (contains-cases d c rest k) [
    | inl e ↦ (subst (λ z. IsWhole p s l z) e h.whole, subst (λ z. IsAfter from z) e h.after)
    | inr m ↦ ((u.sound c m).0, after-below from d c h.after (u.sound c m).1)
  ];
  complete = λ c w a. elim (h.least c w a) [
    | inl e ↦ subst (λ z. Contains (d ∷ rest) z) (sym e) (contains-head d rest)
    | inr k ↦ contains-tail d c rest (u.complete c w k)
  ];
}
