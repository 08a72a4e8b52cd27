-- The word that is found among several.
use Rattle.std.proofs.Common.{◌≡◌, ℕ, suc, zero, ◌+◌, ◌<◌, true, false, List, [], ◌∷◌, get_or, length, Some, None}
use Rattle.std.proofs.Common.{inl, inr, refl, sym, subst, ◌∙◌, arith}
use Rattle.std.proofs.lemmas.Bool.{cases_lt}
use Rattle.ick_syntax.specs.declared.faults.Faults.{Faults}
use Rattle.ick_syntax.specs.Clamped.{no_faults}
use Rattle.ick_source.specs.declared.cursor.Cursor.{Cursor}
use Rattle.ick_source.specs.declared.wanted.Wanted.{Wanted}
use Rattle.ick_source.specs.Cursors.{left, Does, Eats, Halts, Refuses}
use Rattle.ick_source.proofs.ClampedLemmas.{both-no}
use Rattle.ick_source.proofs.CursorLemmas.{does_find, does_refused}
use Rattle.ick_source.specs.Position.{past_white}
use Rattle.ick_source.specs.Grammar.{among, past_word, elsewhere, stands}
use Rattle.ick_source.specs.Reading.{read}
use Rattle.ick_source.specs.Stops.{stops}
use Rattle.ick_source.specs.Wanted.{is_told_by_character}
use Rattle.ick_source.proofs.GrammarLaws.{word-found}

-- the first word that follows, after others that don't
pub among_found : {A : Type 0} (w : Wanted) (spelled : A → List ℕ) (xs : List A) (k : ℕ) (d : A) (from to : List ℕ) → k < length xs →
    ((j : ℕ) → j < k → past_word (spelled (get_or xs j d)) (past_white from) ≡ None) →
    past_word (spelled (get_or xs k d)) (past_white from) ≡ Some to →
    read (among w spelled xs) from ≡ Some (record { value = get_or xs k d; left = to })
unfolding read among
among_found w spelled [] k d from to low before e = absurd (omega (arith, low))
among_found w spelled (x ∷ xs) zero d from to low before e = rw (e, e) refl
among_found w spelled (x ∷ xs) (suc k) d from to low before e =
    rw (before 0 (omega arith)) (among_found w spelled xs k d from to (omega (arith, low))
    (λ j l. before (suc j) (omega (arith, l))) e)

pub among_nothing : {A : Type 0} (w : Wanted) (spelled : A → List ℕ) (xs : List A) (d : A) (from : List ℕ) →
    ((j : ℕ) → j < length xs → past_word (spelled (get_or xs j d)) (past_white from) ≡ None) →
    read (among w spelled xs) from ≡ None
unfolding read among
among_nothing w spelled [] d from before = refl
among_nothing w spelled (x ∷ xs) d from before =
    rw (before 0 (omega arith)) (among_nothing w spelled xs d from (λ j l. before (suc j) (omega (arith, l))))

-- one word more does not follow
pub passed : {A : Type 0} (spelled : A → List ℕ) (xs : List A) (index : ℕ) (d : A) (old mid : Cursor) (w : List ℕ) →
    mid ≡ old → w ≡ spelled (get_or xs index d) →
    (mid.refusal ≡ None → past_word w (past_white (left mid)) ≡ None) →
    (old.refusal ≡ None → (k : ℕ) → k < index → past_word (spelled (get_or xs k d)) (past_white (left old)) ≡ None) →
    old.refusal ≡ None → (k : ℕ) → k < index + 1 → past_word (spelled (get_or xs k d)) (past_white (left old)) ≡ None
passed spelled xs index d old mid w same is e before fine k low = elim (cases_lt k index) [
  | inl l ↦ before fine k l
  | inr h ↦
      let last : index ≡ k = omega (arith, low, h) in
      subst (λ j. past_word (spelled (get_or xs j d)) (past_white (left old)) ≡ None) last
      (subst (λ v. past_word v (past_white (left old)) ≡ None) is
      (subst (λ (z : Cursor). z.refusal ≡ None → past_word w (past_white (left z)) ≡ None) same e fine))
]

-- a word that was read, after others that don't follow
pub does_among : {A : Type 0} (v : Wanted) (spelled : A → List ℕ) (xs : List A) (index : ℕ) (d : A) (old mid new : Cursor)
    (w : List ℕ) (Q : A → Faults → Type 0) → index < length xs → mid ≡ old → w ≡ spelled (get_or xs index d) →
    Eats w mid new true →
    (old.refusal ≡ None → (k : ℕ) → k < index → past_word (spelled (get_or xs k d)) (past_white (left old)) ≡ None) →
    Q (get_or xs index d) no_faults → Does (among v spelled xs) old new Q
does_among v spelled xs index d old mid new w Q low same is e before q =
    let f = subst (λ z. Eats w z new true) same e in
    does_find (among v spelled xs) old new (get_or xs index d) no_faults Q f.0 f.1
    (among_found v spelled xs index d (left old) (left new) low (before f.0)
    (subst (λ v. past_word v (past_white (left old)) ≡ Some (left new)) is f.2))
    (f.3 ∙ sym (both-no old.faults)) f.4 q

-- where none of the words follows, reading stops
among_halts : {A : Type 0} (w : Wanted) (spelled : A → List ℕ) (xs : List A) (d : A) (from : List ℕ) →
    is_told_by_character w ≡ false →
    ((j : ℕ) → j < length xs → past_word (spelled (get_or xs j d)) (past_white from) ≡ None) →
    Halts (among w spelled xs) from from w
unfolding stops stands among
among_halts w spelled [] d from untold before told = (rw untold refl, refl)
among_halts w spelled (x ∷ xs) d from untold before told =
    inr (
      from,
      false,
      (elsewhere (λ after p. let e = sym (before 0 (omega arith)) ∙ word-found p in absurd (cc)), refl),
      among_halts w spelled xs d from untold (λ j l. before (suc j) (omega (arith, l))) from,
    )

pub among_refused : {A : Type 0} (w : Wanted) (spelled : A → List ℕ) (xs : List A) (d : A) (old mid new : Cursor)
    (Q : A → Faults → Type 0) → is_told_by_character w ≡ false → mid ≡ old → Refuses w (left mid) mid new →
    (old.refusal ≡ None → (k : ℕ) → k < length xs → past_word (spelled (get_or xs k d)) (past_white (left old)) ≡ None) →
    Does (among w spelled xs) old new Q
among_refused w spelled xs d old mid new Q untold same r before =
    does_refused (among w spelled xs) old new w (left old) Q (subst (λ z. Refuses w (left z) z new) same r)
    (λ fine. among_halts w spelled xs d (left old) untold (before fine))
