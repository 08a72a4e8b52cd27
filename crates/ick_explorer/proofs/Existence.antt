-- Each position has a listing.
use Rattle.std.proofs.Common.{◌≡◌, ℕ, suc, zero, ◌⊎◌, inl, inr, Bool, true, false, List, [], ◌∷◌}
use Rattle.std.proofs.Common.{◌++◌, map, refl, ap, sym, ◌∙◌, subst}
use Rattle.std.specs.Prelude.{Option, Some, None}
use Rattle.std.specs.List.{Contains}
use Rattle.std.proofs.lemmas.List.Elements.{Contains-append_left, Contains-append_right, Contains-append_cases}
use Rattle.ick_backtrack.specs.Machine.{Program}
use Rattle.ick_code.specs.meaning.State.{State}
use Rattle.ick_code.specs.meaning.Move.{Asking, plain, choice, ended, ask, advance}
use Rattle.ick_explorer.specs.Runs.{run, stepped, IsWhole, IsEnd}
use Rattle.ick_explorer.specs.Order.{IsBelow, IsAfter, IsIncreasing}
use Rattle.ick_explorer.specs.Listings.{IsListing}
use Rattle.ick_explorer.proofs.RunLaws.{run-ended, run-plain, run-choice, run-wants, limit-unused, limit-end, whole-along}
use Rattle.ick_explorer.proofs.ListingLaws.{contains-nil, contains-head, contains-tail, contains-cases}

pub contains-map : (b : Bool) (c : List Bool) (xs : List (List Bool)) → Contains xs c →
    Contains (map (λ r. b ∷ r) xs) (b ∷ c)
contains-map b c [] h = absurd (contains-nil c h)
contains-map b c (x ∷ xs) h = elim (contains-cases x c xs h) [
  | inl e ↦
      subst (λ z. Contains ((b ∷ x) ∷ map (λ r. b ∷ r) xs) (b ∷ z)) e
      (contains-head (b ∷ x) (map (λ r. b ∷ r) xs))
  | inr k ↦ contains-tail (b ∷ x) (b ∷ c) (map (λ r. b ∷ r) xs) (contains-map b c xs k)
]

pub map-contains : (b : Bool) (d : List Bool) (xs : List (List Bool)) →
    Contains (map (λ r. b ∷ r) xs) d → (c : List Bool) × Contains xs c × (b ∷ c ≡ d)
map-contains b d [] h = absurd (contains-nil d h)
map-contains b d (x ∷ xs) h = elim (contains-cases (b ∷ x) d (map (λ r. b ∷ r) xs) h) [
  | inl e ↦ (x, contains-head x xs, e)
  | inr k ↦ let r = map-contains b d xs k in (r.0, contains-tail x r.0 xs r.1, r.2)
]

pub increasing-map : (b : Bool) (xs : List (List Bool)) → ((c d : List Bool) → IsBelow c d →
    IsBelow (b ∷ c) (b ∷ d)) → IsIncreasing xs → IsIncreasing (map (λ r. b ∷ r) xs)
increasing-map b [] f u = tt
increasing-map b (x ∷ xs) f u = (
  λ d h. let r = map-contains b d xs h in
      subst (λ z. IsBelow (b ∷ x) z) r.2 (f x r.0 (u.0 r.0 r.1)),
  increasing-map b xs f u.1,
)

pub increasing-append : (xs ys : List (List Bool)) → IsIncreasing xs →
    IsIncreasing ys → ((c d : List Bool) → Contains xs c → Contains ys d → IsBelow c d) →
    IsIncreasing (xs ++ ys)
increasing-append [] ys u v f = v
increasing-append (x ∷ xs) ys u v f = (
  λ d h. elim (Contains-append_cases xs ys d h) [ inl k ↦ u.0 d k | inr k ↦ f x d (contains-head x xs) k ],
  increasing-append xs ys u.1 v (λ c d h k. f c d (contains-tail x c xs h) k),
)

pub whole-back : {p : Program} {s s' : State} {l l' : ℕ} {c c' : List Bool} →
    run p s l c ≡ stepped (run p s' l' c') → IsWhole p s' l' c' → IsWhole p s l c
whole-back {p} {s} {s'} {l} {l'} {c} {c'} e w = record {
  at_end = subst (λ r. IsEnd r.stop) (sym e) w.at_end;
  all_used = ap (λ r. r.unused) e ∙ w.all_used;
}

-- where the empty list is the one whole list
one_listing : (p : Program) (s : State) (l : ℕ) →
    IsWhole p s l [] → ((c : List Bool) → IsWhole p s l c → c ≡ []) → IsListing p s l None ([] ∷ [])
one_listing p s l w f = record {
  increasing = (λ d h. absurd (contains-nil d h), tt);
  sound =
      λ c h. elim (contains-cases [] c [] h) [
        | inl e ↦ (subst (λ z. IsWhole p s l z) e w, tt)
        | inr k ↦
            absurd (contains-nil c k)
      ];
  complete = λ c v a. subst (λ z. Contains ([] ∷ []) z) (sym (f c v)) (contains-head [] []);
}

choice_complete : (p : Program) (s : State) (l k : ℕ) → ask p s ≡ choice k → (xs ys : List (List Bool)) →
    IsListing p (advance p s false) l None xs → IsListing p (advance p s true) l None ys →
    (c : List Bool) → IsWhole p s (suc l) c → Unit {0} →
    Contains (map (λ r. false ∷ r) xs ++ map (λ r. true ∷ r) ys) c
choice_complete p s l k h xs ys u v [] w a = absurd (subst (λ r. IsEnd r.stop) (run-wants p s l k h) w.at_end)
choice_complete p s l k h xs ys u v (false ∷ c) w a =
    Contains-append_left (map (λ r. false ∷ r) xs) (map (λ r. true ∷ r) ys) (false ∷ c)
    (contains-map false c xs (u.complete c (whole-along (run-choice p s l k false c h) w) tt))
choice_complete p s l k h xs ys u v (true ∷ c) w a =
    Contains-append_right (map (λ r. false ∷ r) xs) (map (λ r. true ∷ r) ys) (true ∷ c)
    (contains-map true c ys (v.complete c (whole-along (run-choice p s l k true c h) w) tt))

choice_listing : (p : Program) (s : State) (l k : ℕ) → ask p s ≡ choice k → (xs ys : List (List Bool)) →
    IsListing p (advance p s false) l None xs → IsListing p (advance p s true) l None ys →
    IsListing p s (suc l) None (map (λ r. false ∷ r) xs ++ map (λ r. true ∷ r) ys)
choice_listing p s l k h xs ys u v = record {
  increasing = increasing-append (map (λ r. false ∷ r) xs) (map (λ r. true ∷ r) ys)
      (increasing-map false xs (λ c d b. b) u.increasing) (increasing-map true ys (λ c d b. b) v.increasing)
      (λ c d m n. let i = map-contains false c xs m in let j = map-contains true d ys n in
      subst (λ z. IsBelow z d) i.2 (subst (λ z. IsBelow (false ∷ i.0) z) j.2 tt));
  sound = λ c m. elim (Contains-append_cases (map (λ r. false ∷ r) xs) (map (λ r. true ∷ r) ys) c m) [
    | inl n ↦ let i = map-contains false c xs n in
        (subst (λ z. IsWhole p s (suc l) z) i.2 (whole-back (run-choice p s l k false i.0 h) (u.sound i.0 i.1).0), tt)
    | inr n ↦ let i = map-contains true c ys n in
        (subst (λ z. IsWhole p s (suc l) z) i.2 (whole-back (run-choice p s l k true i.0 h) (v.sound i.0 i.1).0), tt)
  ];
  complete = choice_complete p s l k h xs ys u v;
}

listing_by : (p : Program) (s : State) (l : ℕ) (a : Asking) → ask p s ≡ a →
    ((b : Bool) → (xs : List (List Bool)) × IsListing p (advance p s b) l None xs) →
    (xs : List (List Bool)) × IsListing p s (suc l) None xs
listing_by p s l (ended e) h ih =
    let r = run-ended p s (suc l) [] e h in (
      [] ∷ [],
      one_listing p s (suc l)
          (record { at_end = subst (λ x. IsEnd x.stop) (sym r) tt; all_used = ap (λ x. x.unused) r })
          (λ c w. sym (ap (λ x. x.unused) (run-ended p s (suc l) c e h)) ∙ w.all_used),
    )
listing_by p s l plain h ih =
    let u = ih false in (
      u.0,
      record {
        increasing = u.1.increasing;
        sound = λ c m. (whole-back (run-plain p s l c h) (u.1.sound c m).0, tt);
        complete = λ c w a. u.1.complete c (whole-along (run-plain p s l c h) w) tt;
      },
    )
listing_by p s l (choice k) h ih =
    let u = ih false in let v = ih true in
    (map (λ r. false ∷ r) u.0 ++ map (λ r. true ∷ r) v.0, choice_listing p s l k h u.0 v.0 u.1 v.1)

pub has_listing : (p : Program) (s : State) (l : ℕ) → (xs : List (List Bool)) × IsListing p s l None xs
has_listing p s zero = (
  [] ∷ [],
  one_listing p s 0
      (record { at_end = limit-end p s []; all_used = limit-unused p s [] })
      (λ c w. sym (limit-unused p s c) ∙ w.all_used),
)
has_listing p s (suc l) = listing_by p s l (ask p s) refl (λ b. has_listing p (advance p s b) l)

-- whether c comes after a position
after_or_not : (from : Option (List Bool)) (c : List Bool) → IsAfter from c ⊎ (IsAfter from c → ⊥)
after_or_not None c = inl tt
after_or_not (Some []) c = inr (λ h. h)
after_or_not (Some (x ∷ f)) [] = inr (λ h. h)
after_or_not (Some (false ∷ f)) (true ∷ c) = inl tt
after_or_not (Some (true ∷ f)) (false ∷ c) = inr (λ h. h)
after_or_not (Some (false ∷ f)) (false ∷ c) = after_or_not (Some f) c
after_or_not (Some (true ∷ f)) (true ∷ c) = after_or_not (Some f) c

pub record IsRest (from : Option (List Bool)) (xs ys : List (List Bool)) : Type 0 where
  pub increasing : IsIncreasing ys
  pub sound : (c : List Bool) → Contains ys c → Contains xs c × IsAfter from c
  pub complete : (c : List Bool) → Contains xs c → IsAfter from c → Contains ys c

rest-keep : (from : Option (List Bool)) (x : List Bool) (xs ys : List (List Bool)) → IsIncreasing (x ∷ xs) →
    IsAfter from x → IsRest from xs ys → IsRest from (x ∷ xs) (x ∷ ys)
rest-keep from x xs ys u a r = record {
  increasing = (λ d h. u.0 d (r.sound d h).0, r.increasing);
  sound = λ c h. elim (contains-cases x c ys h) [
    | inl e ↦ (subst (λ z. Contains (x ∷ xs) z) e (contains-head x xs), subst (λ z. IsAfter from z) e a)
    | inr k ↦ (contains-tail x c xs (r.sound c k).0, (r.sound c k).1)
  ];
  complete = λ c h b. elim (contains-cases x c xs h) [
    | inl e ↦ subst (λ z. Contains (x ∷ ys) z) e (contains-head x ys)
    | inr k ↦ contains-tail x c ys (r.complete c k b)
  ];
}

rest-skip : (from : Option (List Bool)) (x : List Bool) (xs ys : List (List Bool)) → (IsAfter from x → ⊥) →
    IsRest from xs ys → IsRest from (x ∷ xs) ys
rest-skip from x xs ys n r = record {
  increasing = r.increasing;
  sound = λ c h. (contains-tail x c xs (r.sound c h).0, (r.sound c h).1);
  complete = λ c h b. elim (contains-cases x c xs h) [
    | inl e ↦ absurd (n (subst (λ z. IsAfter from z) (sym e) b))
    | inr k ↦ r.complete c k b
  ];
}

rest_of : (from : Option (List Bool)) (xs : List (List Bool)) →
    IsIncreasing xs → (ys : List (List Bool)) × IsRest from xs ys
rest_of from [] u = ([], record { increasing = tt; sound = λ c h. absurd (contains-nil c h); complete = λ c h a. h })
rest_of from (x ∷ xs) u = let r = rest_of from xs u.1 in elim (after_or_not from x) [
  | inl a ↦ (x ∷ r.0, rest-keep from x xs r.0 u a r.1)
  | inr n ↦ (r.0, rest-skip from x xs r.0 n r.1)
]

-- each position has a listing
pub listing_exists : (p : Program) (s : State) (l : ℕ) (from : Option (List Bool)) → (xs : List (List Bool))
    × IsListing p s l from xs
listing_exists p s l from =
    let all = has_listing p s l in
    let r = rest_of from all.0 all.1.increasing in (
      r.0,
      record {
        increasing = r.1.increasing;
        sound = λ c h. ((all.1.sound c (r.1.sound c h).0).0, (r.1.sound c h).1);
        complete = λ c w a. r.1.complete c (all.1.complete c w tt) a;
      },
    )
