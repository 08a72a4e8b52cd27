-- Members of lists.
use Rattle.std.proofs.Common.{◌≡◌, ℕ, zero, suc, ◌<◌, List, [], ◌∷◌, ◌++◌, length, map, Option}
use Rattle.std.proofs.Common.{Some, None, refl, sym, ap, ◌∙◌, ◌⊎◌, ⊎_elim, inl, inr, subst, arith}
use Rattle.std.specs.Prelude.{slice_get, option_map}
use Rattle.std.specs.List.{All}
use Rattle.std.proofs.lemmas.Option.{slice_get-map}
use Rattle.std.proofs.lemmas.List.Elements.{All-head, All-tail}

pub some_is : {A : Type 0} (a b : A) → Some a ≡ Some b → a ≡ b
some_is a b e = cc

-- there is one at each place
pub some_member : {A : Type 0} (xs : List A) (n : ℕ) → n < length xs → (x : A) × (slice_get xs n ≡ Some x)
some_member [] n h = absurd (omega arith)
some_member (x ∷ xs) zero h = (x, refl)
some_member (x ∷ xs) (suc n) h = some_member xs n (omega arith)

-- what is so of all is so of one
pub member_passes : {A : Type 0} (P : A → Type 0) (xs : List A) (n : ℕ) (x : A) →
    All P xs →
    slice_get xs n ≡ Some x →
    P x
member_passes P [] n x h e = absurd (cc)
member_passes P (y ∷ ys) zero x h e = subst P (some_is y x e) (All-head P y ys h)
member_passes P (y ∷ ys) (suc n) x h e = member_passes P ys n x (All-tail P y ys h) e

-- a member is one of before, or the last
pub push_cases : {A : Type 0} (xs : List A) (y : A) (i : ℕ) (x : A) →
    slice_get (xs ++ y ∷ []) i ≡ Some x →
    (slice_get xs i ≡ Some x) ⊎ ((i ≡ length xs) × (y ≡ x))
push_cases [] y zero x h = inr (refl, (cc))
push_cases [] y (suc i) x h = absurd (cc)
push_cases (z ∷ xs) y zero x h = inl h
push_cases (z ∷ xs) y (suc i) x h = ⊎_elim (λ a. inl a) (λ b. inr (ap suc b.0, b.1)) (push_cases xs y i x h)

-- what was mapped comes from a member
pub mapped_from : {A B : Type 0} (f : A → B) (xs : List A) (n : ℕ) (y : B) →
    slice_get (map f xs) n ≡ Some y →
    (x : A) × (slice_get xs n ≡ Some x) × (y ≡ f x)
mapped_from {A = A} f xs n y e = cases (slice_get xs n) refl (sym (slice_get-map f xs n) ∙ e)
  where
    cases : (o : Option A) →
        slice_get xs n ≡ o →
        option_map f o ≡ Some y →
        (x : A) × (slice_get xs n ≡ Some x) × (y ≡ f x)
    cases None at h = absurd (cc)
    cases (Some x) at h = (x, at, (cc))
