-- Proves how rows are found and added.
use Prim.Native.Nat.{zero, suc}
use Rattle.std.proofs.Common.{◌≡◌, ℕ, ◌+◌, ◌<◌, ◌≤◌, Bool, true, false, length, List, [], ◌∷◌, ◌++◌, slice_index_or}
use Rattle.std.proofs.Common.{◌⊎◌, inl, inr, None, Some, slice_get, slice_set, refl, ap, sym, ◌∙◌, subst, arith}
use Rattle.std.specs.List.{Contains}
use Rattle.std.specs.HashMap.{HashMap}
use Rattle.std.proofs.lemmas.List.{map-append}
use Rattle.ick_explorer.proofs.ListingLaws.{contains-nil, contains-head, contains-tail, contains-cases}
use Rattle.ick_numbers.specs.Values.{natural}
use Rattle.ick_outcomes.specs.Keys.{key_of, Lacks}
use Rattle.ick_outcomes.specs.Tallies.{Test as OutcomeTest}
use Rattle.ick_outcomes.proofs.Lists.{get-mapped, set-mapped, mapped-at, any_default, at-pushed, at-set}
use Rattle.ick_chain.specs.Limits.{all_if}
use Rattle.ick_chain.specs.RowKeys.{IsIndexed}
use Rattle.ick_chain.specs.Rows.{Row, AreApart, AreDistinct, SameRow, weight_of, Adds, row_of, rows_of}
use Rattle.ick_chain.specs.declared.row.Row.{Row as Kept}

-- if nothing is noted for the key of an outcome, no row has the outcome
pub apart_by_key : {S : Type 0} (places : HashMap ℕ ℕ S) (rs : List Kept) (more : Kept) → IsIndexed places rs →
    Lacks places (key_of more.output.items more.end.items) →
    (x : Row) → Contains (rows_of rs) x → AreApart x (row_of more)
apart_by_key places rs more h n x m =
    let i = mapped-at row_of rs more x m in
    λ a b.
    h i.0 more i.1
    (subst (λ z. Lacks places z)
    (sym (ap (λ (z : Row). key_of z.output z.end) i.2
    ∙ (ap (λ z. key_of z x.end) a ∙ ap (λ z. key_of more.output.items z) b))) n)

pub indexed_none : {S : Type 0} (places : HashMap ℕ ℕ S) → IsIndexed places []
indexed_none places i d lt = absurd (omega (arith, lt))

pub indexed_push : {S : Type 0} (places places' : HashMap ℕ ℕ S) (rs rs' : List Kept) (more : Kept) →
    IsIndexed places rs →
    ((k : ℕ) → Lacks places' k → Lacks places k) → (Lacks places' (key_of more.output.items more.end.items) → ⊥) →
    rs' ≡ rs ++ more ∷ [] → IsIndexed places' rs'
indexed_push places places' rs rs' more h f n e =
    subst (λ z. IsIndexed places' z) (sym e)
    (λ i d lt. at-pushed (λ (o : Kept). Lacks places' (key_of o.output.items o.end.items) → ⊥) rs more i d lt
    (λ u v. h i d u (f _ v)) n)

pub indexed_set : {S : Type 0} (places : HashMap ℕ ℕ S) (rs : List Kept) (j : ℕ) (old new : Kept) →
    IsIndexed places rs →
    j < length rs → old ≡ slice_index_or rs j old →
    new.output.items ≡ old.output.items → new.end.items ≡ old.end.items →
    IsIndexed places (slice_set rs j new)
indexed_set places rs j old new h lt e a b = λ i d lt'.
    at-set (λ (o : Kept). Lacks places (key_of o.output.items o.end.items) → ⊥) rs j new i d lt' (λ u. h i d u)
    (λ u p n. p (subst (λ (z : Kept). Lacks places (key_of z.output.items z.end.items)) (e ∙ any_default rs j old d lt)
    (subst (λ z. Lacks places (key_of z old.end.items)) a
    (subst (λ z. Lacks places (key_of new.output.items z)) b n))))

pub no_row_at : (rs : List Kept) (more : Kept) (at : ℕ) → length rs ≤ at →
    ((k : ℕ) (d : Kept) → k < at → AreApart (row_of (slice_index_or rs k d)) (row_of more)) →
    (x : Row) → Contains (rows_of rs) x → AreApart x (row_of more)
no_row_at rs more at n f x m =
    let i = mapped-at row_of rs more x m in
    let lt : i.0 < length rs = i.1 in
    subst (λ z. AreApart z (row_of more)) i.2 (f i.0 more (omega (arith, n, lt)))

contains-push : (rs : List Row) (r x : Row) → Contains (rs ++ r ∷ []) x → Contains rs x ⊎ (r ≡ x)
contains-push [] r x m = elim (contains-cases r x [] m) [ inl e ↦ inr e | inr n ↦ absurd (contains-nil x n) ]
contains-push (y ∷ rs) r x m = elim (contains-cases y x (rs ++ r ∷ []) m) [
  | inl e ↦ inl (subst (λ z. Contains (y ∷ rs) z) e (contains-head y rs))
  | inr n ↦ elim (contains-push rs r x n) [ inl k ↦ inl (contains-tail y x rs k) | inr e ↦ inr e ]
]

distinct-push : (rs : List Row) (r : Row) → ((x : Row) → Contains rs x → AreApart x r) → AreDistinct rs →
    AreDistinct (rs ++ r ∷ [])
distinct-push [] r f d = ((λ x m. absurd (contains-nil x m)), tt)
distinct-push (y ∷ rs) r f d = (
  (λ x m. elim (contains-push rs r x m) [
    | inl k ↦ d.0 x k
    | inr e ↦ subst (λ z. AreApart y z) e (f y (contains-head y rs))
  ]),
  distinct-push rs r (λ x m. f x (contains-tail y x rs m)) d.1,
)

weight-push : (q : OutcomeTest) (rs : List Row) (r : Row) →
    weight_of q (rs ++ r ∷ []) ≡ all_if (q r.output r.end) r.weight + weight_of q rs
weight-push q [] r = refl
weight-push q (y ∷ rs) r = let k = weight-push q rs r in omega (arith, k)

pub adds_new : (rs rs' : List Kept) (more : Kept) → rs' ≡ rs ++ more ∷ [] →
    ((x : Row) → Contains (rows_of rs) x → AreApart x (row_of more)) →
    Adds (rows_of rs) (row_of more) (rows_of rs')
adds_new rs rs' more e f =
    subst (λ xs. Adds (rows_of rs) (row_of more) xs)
    (sym (map-append row_of rs (more ∷ [])) ∙ ap rows_of (sym e))
    (record {
      added = λ q. weight-push q (rows_of rs) (row_of more);
      apart = distinct-push (rows_of rs) (row_of more) f;
    })

all-plus : (b : Bool) (m n : ℕ) → all_if b (m + n) ≡ all_if b n + all_if b m
all-plus true m n = omega arith
all-plus false m n = refl

weight-set : (q : OutcomeTest) (rs : List Row) (i : ℕ) (x y : Row) (more : ℕ) → slice_get rs i ≡ Some x →
    y.output ≡ x.output → y.end ≡ x.end → y.weight ≡ x.weight + more →
    weight_of q (slice_set rs i y) ≡ all_if (q x.output x.end) more + weight_of q rs
weight-set q [] i x y more h a b w = let z : None ≡ Some x = h in cc
weight-set q (z ∷ rs) zero x y more h a b w =
    let e : z ≡ x = cc in
    let g : all_if (q y.output y.end) y.weight ≡ all_if (q x.output x.end) (x.weight + more) = cc in
    let k = all-plus (q x.output x.end) x.weight more in
    let f : all_if (q z.output z.end) z.weight ≡ all_if (q x.output x.end) x.weight =
    ap (λ (v : Row). all_if (q v.output v.end) v.weight) e in
    omega (arith, g, k, f)
weight-set q (z ∷ rs) (suc i) x y more h a b w = let k = weight-set q rs i x y more h a b w in omega (arith, k)

contains-set : (rs : List Row) (i : ℕ) (x y z : Row) → slice_get rs i ≡ Some x → Contains (slice_set rs i y) z →
    (y ≡ z) ⊎ Contains rs z
contains-set [] i x y z h m = absurd (contains-nil z m)
contains-set (w ∷ rs) zero x y z h m =
    elim (contains-cases y z rs m) [ inl e ↦ inl e | inr n ↦ inr (contains-tail w z rs n) ]
contains-set (w ∷ rs) (suc i) x y z h m = elim (contains-cases w z (slice_set rs i y) m) [
  | inl e ↦ inr (subst (λ v. Contains (w ∷ rs) v) e (contains-head w rs))
  | inr n ↦ elim (contains-set rs i x y z h n) [ inl e ↦ inl e | inr k ↦ inr (contains-tail w z rs k) ]
]

got-contains : (rs : List Row) (i : ℕ) (x : Row) → slice_get rs i ≡ Some x → Contains rs x
got-contains [] i x h = let z : None ≡ Some x = h in cc
got-contains (y ∷ rs) zero x h = let e : y ≡ x = cc in subst (λ z. Contains (y ∷ rs) z) e (contains-head y rs)
got-contains (y ∷ rs) (suc i) x h = contains-tail y x rs (got-contains rs i x h)

distinct-set : (rs : List Row) (i : ℕ) (x y : Row) → slice_get rs i ≡ Some x → y.output ≡ x.output → y.end ≡ x.end →
    AreDistinct rs → AreDistinct (slice_set rs i y)
distinct-set [] i x y h a b d = tt
distinct-set (z ∷ rs) zero x y h a b d =
    let e : z ≡ x = cc in (
      (λ w m o f. d.0 w m (ap (λ (v : Row). v.output) e ∙ (sym a ∙ o)) (ap (λ (v : Row). v.end) e ∙ (sym b ∙ f))),
      d.1,
    )
distinct-set (z ∷ rs) (suc i) x y h a b d = (
  (λ w m. elim (contains-set rs i x y w h m) [
    | inl e ↦ λ o f. d.0 x (got-contains rs i x h) (o ∙ (ap (λ (v : Row). v.output) (sym e) ∙ a))
        (f ∙ (ap (λ (v : Row). v.end) (sym e) ∙ b))
    | inr k ↦ d.0 w k
  ]),
  distinct-set rs i x y h a b d.1,
)

pub adds_at : (rs : List Kept) (i : ℕ) (more old new : Kept) → i < length rs →
    ((d : Kept) → SameRow (row_of (slice_index_or rs i d)) (row_of more)) →
    old ≡ slice_index_or rs i old →
    new.output.items ≡ old.output.items → new.end.items ≡ old.end.items →
    natural new.weight ≡ natural old.weight + natural more.weight →
    Adds (rows_of rs) (row_of more) (rows_of (slice_set rs i new))
adds_at rs i more old new lt m e a b w =
    let s : SameRow (row_of old) (row_of more) = subst (λ x. SameRow (row_of x) (row_of more)) (sym e) (m old) in
    let g : slice_get (rows_of rs) i ≡ Some (row_of old) =
    get-mapped row_of rs i old lt ∙ ap (λ x. Some (row_of x)) (sym e) in
    subst (λ xs. Adds (rows_of rs) (row_of more) xs) (sym (set-mapped row_of rs i new))
    (record {
      added = λ q. weight-set q (rows_of rs) i (row_of old) (row_of new) (natural more.weight) g a b w
          ∙ (ap (λ o. all_if (q o old.end.items) (natural more.weight) + weight_of q (rows_of rs)) s.same_output
          ∙ ap (λ o. all_if (q more.output.items o) (natural more.weight) + weight_of q (rows_of rs)) s.same_end);
      apart = distinct-set (rows_of rs) i (row_of old) (row_of new) g a b;
    })
