-- Walks over parts that follow one another, turn by turn.
use Rattle.std.proofs.Common.{◌≡◌, ℕ, false, List, [], ◌∷◌, ◌++◌, Some, None}
use Rattle.std.proofs.Common.{refl, sym, ap, subst, ◌∙◌}
use Rattle.std.proofs.lemmas.List.{append-nil, append_assoc}
use Rattle.ick_places.specs.declared.mark.Mark.{Mark}
use Rattle.ick_places.specs.declared.walker.Walker.{Walker}
use Rattle.ick_places.specs.Marks.{past, onward, along, values_of, repeated_marks}
use Rattle.ick_places.specs.Walks.{left, Keeps, Walks}
use Rattle.ick_places.proofs.WalkLemmas.{keeps_same, keeps_then, past-is}
use Rattle.ick_source.specs.Grammar.{Grammar, Further, IsRepeated, only, and_more, stands, repeated}
use Rattle.ick_source.proofs.GrammarLaws.{found}

-- the parts that are still to be passed, and their marks
pub record Rest {A : Type 0} (g : Grammar A) (each : List ℕ → List Mark) (further : Further) (old now : Walker)
    (to : List ℕ) (xs : List A) : Type 0 where
  pub values : List A
  pub follow : IsRepeated A (stands g) further (left now) to values
  pub marks : now.refused ≡ false →
      now.marks.items ++ along g each further values (left now) ≡ old.marks.items ++ along g each further xs (left old)

pub record Turns {A : Type 0} (g : Grammar A) (each : List ℕ → List Mark) (further : Further) (old now : Walker) :
    Type 0 where
  pub keeps : Keeps old now
  pub rest : (to : List ℕ) (xs : List A) → IsRepeated A (stands g) further (left old) to xs →
      Rest g each further old now to xs

pub turns_start : {A : Type 0} (g : Grammar A) (each : List ℕ → List Mark) (further : Further) (now : Walker) →
    Turns g each further now now
turns_start g each further now = record {
  keeps = keeps_same now;
  rest = λ to xs p. record { values = xs; follow = p; marks = λ f. refl };
}

-- the marks of one part more, and of those after it
along-more : {A : Type 0} (g : Grammar A) (each : List ℕ → List Mark) (further : Further) (x : A) (xs : List A)
    (from mid later : List ℕ) → past g from ≡ mid → further from mid ≡ Some later →
    along g each further (x ∷ xs) from ≡ each from ++ along g each further xs later
unfolding along
along-more g each further x xs from mid later e f =
    ap (λ z. each from ++ along g each further xs (onward from z)) (ap (further from) e ∙ f)

along-one : {A : Type 0} (g : Grammar A) (each : List ℕ → List Mark) (further : Further) (x : A) (from : List ℕ) →
    along g each further (x ∷ []) from ≡ each from
unfolding along
along-one g each further x from = append-nil (each from)

pub turns_more : {A : Type 0} (g : Grammar A) (each : List ℕ → List Mark) (further : Further) (old now mid new : Walker) →
    Turns g each further old now → Walks g now mid (each (left now)) → Keeps mid new →
    (new.refused ≡ false → new.marks.items ≡ mid.marks.items) → further (left now) (left mid) ≡ Some (left new) →
    Turns g each further old new
turns_more {A} g each further old now mid new t w k same more = record {
  keeps = keeps_then t.keeps (keeps_then w.keeps k);
  rest = λ to xs p. by_rest to xs (t.rest to xs p).values (t.rest to xs p).follow (t.rest to xs p).marks;
} where
  by_rest : (to : List ℕ) (xs ys : List A) → IsRepeated A (stands g) further (left now) to ys →
      (now.refused ≡ false →
      now.marks.items ++ along g each further ys (left now) ≡ old.marks.items ++ along g each further xs (left old)) →
      Rest g each further old new to xs
  by_rest to xs _ (only {x = x} p e) m =
      absurd (let here = w.goes to x p in
      let both : Some (left new) ≡ None = sym more ∙ ap (further (left now)) here ∙ e in cc)
  by_rest to xs _ (and_more {mid = end} {later = later} {x = x} {xs = ys} p e less q) m =
      let here = w.goes end x p in
      let same_later : later ≡ left new =
      (let both : Some later ≡ Some (left new) = sym e ∙ ap (further (left now)) (sym here) ∙ more in cc) in
      record {
        values = ys;
        follow = subst (λ z. IsRepeated A (stands g) further z to ys) same_later q;
        marks = λ fine.
            ap (λ z. z ++ along g each further ys (left new)) (same fine ∙ w.added end x p (k.fine fine))
            ∙ append_assoc now.marks.items (each (left now)) _
            ∙ ap (λ z. now.marks.items ++ z) (sym (along-more g each further x ys (left now) (left mid) (left new)
            (past-is g (left now) end x p ∙ sym here) more))
            ∙ m (w.keeps.fine (k.fine fine));
      }

pub turns_end : {A : Type 0} (g : Grammar A) (each : List ℕ → List Mark) (further : Further) (old now mid : Walker) →
    Turns g each further old now → Walks g now mid (each (left now)) →
    ((to : List ℕ) (x : A) → stands g (left now) to x → further (left now) (left mid) ≡ None) →
    Walks (repeated g further) old mid (repeated_marks g each further (left old))
unfolding stands repeated_marks
turns_end {A} g each further old now mid t w last = record {
  keeps = keeps_then t.keeps w.keeps;
  goes = λ to xs p. (by_rest to xs (t.rest to xs p).values (t.rest to xs p).follow (t.rest to xs p).marks).0;
  added = λ to xs p fine.
      (by_rest to xs (t.rest to xs p).values (t.rest to xs p).follow (t.rest to xs p).marks).1 fine
      ∙ ap (λ z. old.marks.items ++ along g each further (values_of z) (left old))
      (sym (found (repeated g further) (left old) to xs p));
} where
  by_rest : (to : List ℕ) (xs ys : List A) → IsRepeated A (stands g) further (left now) to ys →
      (now.refused ≡ false →
      now.marks.items ++ along g each further ys (left now) ≡ old.marks.items ++ along g each further xs (left old)) →
      (left mid ≡ to)
      × (mid.refused ≡ false → mid.marks.items ≡ old.marks.items ++ along g each further xs (left old))
  by_rest to xs _ (only {x = x} p e) m = (
    w.goes to x p,
    λ fine.
        w.added to x p fine ∙ ap (λ z. now.marks.items ++ z) (sym (along-one g each further x (left now)))
        ∙ m (w.keeps.fine fine),
  )
  by_rest to xs _ (and_more {mid = end} {later = later} {x = x} p e less q) m =
      absurd (let here = w.goes end x p in
      let both : Some later ≡ None = sym e ∙ ap (further (left now)) (sym here) ∙ last end x p in cc)
