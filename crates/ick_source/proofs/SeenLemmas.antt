-- The statements of a text that were read so far, and what is known of each.
use Rattle.std.proofs.Common.{◌≡◌, ℕ, zero, suc, ◌+◌, ◌<◌, ◌≤◌, List, [], ◌∷◌, ◌++◌, length, map, slice_get, Option, Some, None}
use Rattle.std.proofs.Common.{refl, sym, ap, subst, ◌∙◌, arith, append_assoc, count_by, Bool, cond, take}
use Rattle.std.proofs.lemmas.List.{append-nil, length-map, map-append}
use Rattle.std.proofs.lemmas.List.Sums.{sum_by-cons}
use Rattle.std.proofs.lemmas.Option.{slice_get-map}
use Rattle.std.proofs.Math.Seq.{take-nil}
use Rattle.std.specs.List.{AllZip}
use Rattle.ick_source.specs.declared.seen.Seen.{Seen}
use Rattle.ick_source.specs.Boundaries.{IsBoundary, IsNextBoundary, IsStart, at_end, at_start}
use Rattle.ick_source.specs.Bytes.{IsGap}
use Rattle.ick_source.specs.Cut.{done, statement_then, plain}
use Rattle.ick_source.specs.Seen.{Sees, SeesAll, SeesText}
use Rattle.ick_source.specs.SeenAnswers.{HasSeenUpTo}
use Rattle.ick_source.specs.Statements.{IsStatement, IsTrimmed}
use Rattle.ick_syntax.specs.StatementTree.{StatementTree, polite_in}
use Rattle.ick_source.proofs.SourceLemmas.{front_nothing, front_something, numbers_push}
use Rattle.ick_source.proofs.StatementLemmas.{statement_boundary}

zip_push : {A B : Type 0} (R : A → B → Type 0) (xs : List A) (ys : List B) (x : A) (y : B) → AllZip R xs ys → R x y →
    AllZip R (xs ++ x ∷ []) (ys ++ y ∷ [])
zip_push R [] [] x y z r = (r, tt)
zip_push R [] (b ∷ ys) x y z r = absurd z
zip_push R (a ∷ xs) [] x y z r = absurd z
zip_push R (a ∷ xs) (b ∷ ys) x y z r = (z.0, zip_push R xs ys x y z.1 r)

pub zip_long : {A B : Type 0} (R : A → B → Type 0) (xs : List A) (ys : List B) → AllZip R xs ys → length xs ≡ length ys
zip_long R [] [] z = refl
zip_long R [] (b ∷ ys) z = absurd z
zip_long R (a ∷ xs) [] z = absurd z
zip_long R (a ∷ xs) (b ∷ ys) z = ap suc (zip_long R xs ys z.1)

zip_at : {A B : Type 0} (R : A → B → Type 0) (xs : List A) (ys : List B) (k : ℕ) (x : A) → AllZip R xs ys →
    slice_get xs k ≡ Some x → (y : B) × (slice_get ys k ≡ Some y) × R x y
zip_at R [] ys k x z e = absurd (cc)
zip_at R (a ∷ xs) [] k x z e = absurd z
zip_at R (a ∷ xs) (b ∷ ys) zero x z e = (b, refl, subst (λ v. R v b) (let f : Some a ≡ Some x = e in some_same f) z.0)
  where
    some_same : {A : Type 0} {a x : A} → Some a ≡ Some x → a ≡ x
    some_same f = cc
zip_at R (a ∷ xs) (b ∷ ys) (suc k) x z e = zip_at R xs ys k x z.1 e

-- the tree of a statement that was read, and its number
pub record Found (trees : List StatementTree) (k : ℕ) (x : Seen) : Type 0 where
  pub tree : StatementTree
  pub there : slice_get trees k ≡ Some tree
  pub sees : Sees x tree
  pub number : x.statement.number ≡ k + 1

pub found_at : {xs : List Seen} {trees : List StatementTree} (k : ℕ) (x : Seen) → SeesAll xs trees →
    slice_get xs k ≡ Some x → Found trees k x
found_at {xs} {trees} k x h e =
    let one = zip_at Sees xs trees k x h.each e in
    record {
      tree = one.0;
      there = one.1;
      sees = one.2;
      number = h.numbered k x.statement (rw (slice_get-map (λ (y : Seen). y.statement) xs k, e) refl);
    }

pub see_more : {xs : List Seen} {trees : List StatementTree} {x : Seen} {t : StatementTree} → SeesAll xs trees →
    Sees x t → x.statement.number ≡ length xs + 1 → SeesAll (xs ++ x ∷ []) (trees ++ t ∷ [])
see_more {xs} {trees} {x} {t} h s n = record {
  each = zip_push Sees xs trees x t h.each s;
  numbered =
      rw (map-append (λ (y : Seen). y.statement) xs (x ∷ []))
      (numbers_push (map (λ y. y.statement) xs) x.statement h.numbered
      (n ∙ ap (λ k. k + 1) (sym (length-map xs (λ (y : Seen). y.statement)))));
}

pub see_none : SeesAll [] []
see_none = record { each = tt; numbered = λ k x e. absurd (cc) }

pub seen_whole : {s : List ℕ} {at : ℕ} {xs : List Seen} → HasSeenUpTo s at xs → (IsStart s at → ⊥) → SeesText s xs
seen_whole {s} {at} h n =
    record { trees = h.front; sees = h.sees; cut = rw append-nil at (h.cut [] (done (end h.boundary))) } where
      end : IsBoundary s at → at ≡ length s
      end (at_start x) = absurd (n x)
      end (at_end e) = e

pub seen_more : {s : List ℕ} {at e : ℕ} {xs ys : List Seen} {x : Seen} {t : StatementTree} → HasSeenUpTo s at xs →
    IsStatement s at e t → Sees x t → x.statement.number ≡ length xs + 1 → ys ≡ xs ++ x ∷ [] → HasSeenUpTo s e ys
seen_more {s} {e = e} {t = t} h g sees number same = subst (HasSeenUpTo s e) (sym same) (record {
  front = h.front ++ t ∷ [];
  sees = see_more h.sees sees number;
  boundary = statement_boundary g;
  cut = λ rest x. rw (append_assoc h.front (t ∷ []) rest) (h.cut (t ∷ rest) (statement_then g x));
})

pub seen_nothing : {s : List ℕ} {a e : ℕ} {xs : List Seen} → IsGap s 0 a → IsNextBoundary s 0 e → e ≤ a →
    a ≤ length s → xs ≡ [] → HasSeenUpTo s e xs
seen_nothing {s} {e = e} g b le within none = subst (HasSeenUpTo s e) (sym none) (record {
  front = [];
  sees = see_none;
  boundary = b.boundary;
  cut = λ rest x. front_nothing g b le within x;
})

pub seen_something : {s : List ℕ} {a e : ℕ} {xs ys : List Seen} {x : Seen} {text : List ℕ} → IsGap s 0 a →
    IsNextBoundary s 0 e → a < e → IsTrimmed s a e text → xs ≡ [] → ys ≡ xs ++ x ∷ [] → Sees x (plain text) →
    x.statement.number ≡ 1 → HasSeenUpTo s e ys
seen_something {s} {e = e} {x = x} {text = text} g b lt t none same sees number =
    subst (HasSeenUpTo s e) (sym (same ∙ ap (λ l. l ++ x ∷ []) none)) (record {
      front = plain text ∷ [];
      sees = see_more see_none sees number;
      boundary = b.boundary;
      cut = λ rest x. front_something g b lt t x;
    })

pub polite_same : (xs : List Seen) (trees : List StatementTree) → AllZip Sees xs trees →
    count_by (λ (x : Seen). x.statement.polite) xs ≡ polite_in trees
polite_same [] [] z = refl
polite_same [] (t ∷ trees) z = absurd z
polite_same (x ∷ xs) [] z = absurd z
polite_same (x ∷ xs) (t ∷ trees) z =
    let one : x.statement.polite ≡ t.polite = ap (λ (u : StatementTree). u.polite) z.0.reads.clamped in
    let head : cond x.statement.polite 1 0 ≡ cond t.polite 1 0 = ap {B = ℕ} (λ (b : Bool). cond b 1 0) one in
    let rest = polite_same xs trees z.1 in
    omega (
      arith,
      sum_by-cons (λ (y : Seen). cond y.statement.polite 1 0) x xs,
      sum_by-cons (λ (u : StatementTree). cond u.polite 1 0) t trees,
      head,
      rest,
    )

pub take_all : {A : Type 0} (xs : List A) (i : ℕ) → length xs ≤ i → take i xs ≡ xs
take_all [] i le = take-nil i
take_all (x ∷ xs) zero le = absurd (omega (arith, le))
take_all (x ∷ xs) (suc i) le = ap (λ l. x ∷ l) (take_all xs i (omega (arith, le)))
