-- Proves that sorted rows are the same rows, in the order of their first runs.
use Prim.Native.Nat.{suc}
use Rattle.std.proofs.Common.{◌≡◌, ℕ, ◌+◌, ◌<◌, ◌≤◌, inl, inr, length, List, [], ◌∷◌, Bool, true, false}
use Rattle.std.proofs.Common.{Option, Some, None, refl, ap, sym, ◌∙◌, subst, arith, slice_index_or}
use Rattle.std.specs.Cmp.{bool_cmp_total, IsStrictWeakOrder}
use Rattle.std.specs.Cmp.Lexicographic.{slice_cmp}
use Rattle.std.specs.Ordering.{bool_cmp, is_lt}
use Rattle.std.specs.List.{Contains, sum_by}
use Rattle.std.specs.List.Sorted.{IsPermutation, IsSortedBy}
use Rattle.std.proofs.lemmas.Cmp.{lists_total}
use Rattle.std.proofs.lemmas.List.Sorted.{IsPermutation-map, IsPermutation-sym, Contains-permutation}
use Rattle.std.proofs.lemmas.List.Sorted.{sum_by-IsPermutation, sorted_far, ranks_by}
use Rattle.std.proofs.lemmas.List.Sums.{sum_by-cons}
use Rattle.ick_code.specs.meaning.State.{State}
use Rattle.ick_outcomes.specs.Programs.{Program}
use Rattle.ick_outcomes.specs.Tallies.{lesser, sooner, Test}
use Rattle.ick_outcomes.specs.Summaries.{Row, IsSummary}
use Rattle.ick_outcomes.specs.Accounts.{counted, all_counted, AreDistinct, AreOrdered, Sorts, AreCounted}
use Rattle.ick_outcomes.specs.Seen.{row_of, rows_of}
use Rattle.ick_outcomes.specs.declared.outcome.Outcome.{Outcome}
use Rattle.ick_outcomes.proofs.Algebra.{same_tally, lesser-self, sooner-assoc, sooner-swap}
use Rattle.ick_explorer.proofs.ListingLaws.{contains-nil, contains-head, contains-tail, contains-cases}
use Rattle.ick_outcomes.proofs.Ends.{summary-is, test_for, test-self, test-output, test-end}
use Rattle.ick_outcomes.proofs.Lists.{mapped-at}

-- numbers and weights are sums
number-is : (q : Test) (rs : List Row) → (all_counted q rs).count ≡ sum_by (λ r. (counted q r).count) rs
number-is q [] = refl
number-is q (r ∷ rs) =
    ap (λ n. (counted q r).count + n) (number-is q rs) ∙ sym (sum_by-cons (λ r. (counted q r).count) r rs)

weight-is : (q : Test) (rs : List Row) → (all_counted q rs).weight ≡ sum_by (λ r. (counted q r).weight) rs
weight-is q [] = refl
weight-is q (r ∷ rs) =
    ap (λ n. (counted q r).weight + n) (weight-is q rs) ∙ sym (sum_by-cons (λ r. (counted q r).weight) r rs)

-- the first run depends on which rows there are alone
sooner-self : (a : Option (List Bool)) → sooner a a ≡ a
sooner-self None = refl
sooner-self (Some c) = ap (λ d. Some d) (lesser-self c)

absorbs : (q : Test) (rs : List Row) (r : Row) → Contains rs r →
    sooner (counted q r).first (all_counted q rs).first ≡ (all_counted q rs).first
absorbs q [] r m = absurd (contains-nil r m)
absorbs q (x ∷ rs) r m =
    let a = (counted q x).first in
    let b = (all_counted q rs).first in
    let c = (counted q r).first in
    elim (contains-cases x r rs m) [
      | inl e ↦ subst (λ z. sooner (counted q z).first (sooner a b) ≡ sooner a b) e
          (sym (sooner-assoc a a b) ∙ ap (λ z. sooner z b) (sooner-self a))
      | inr n ↦ sym (sooner-assoc c a b) ∙ (ap (λ z. sooner z b) (sooner-swap c a)
          ∙ (sooner-assoc a c b ∙ ap (λ z. sooner a z) (absorbs q rs r n)))
    ]

covers : (q : Test) (rs xs : List Row) → ((r : Row) → Contains rs r → Contains xs r) →
    sooner (all_counted q rs).first (all_counted q xs).first ≡ (all_counted q xs).first
covers q [] xs f = refl
covers q (r ∷ rs) xs f =
    let a = (counted q r).first in
    let c = (all_counted q xs).first in
    sooner-assoc a (all_counted q rs).first c
    ∙ (ap (λ z. sooner a z) (covers q rs xs (λ x m. f x (contains-tail r x rs m)))
    ∙ absorbs q xs r (f r (contains-head r rs)))

same-first : (q : Test) (rs xs : List Row) → ((r : Row) → Contains rs r → Contains xs r) →
    ((r : Row) → Contains xs r → Contains rs r) → (all_counted q rs).first ≡ (all_counted q xs).first
same-first q rs xs f g =
    sym (covers q xs rs g)
    ∙ (sooner-swap (all_counted q xs).first (all_counted q rs).first ∙ covers q rs xs f)

same-counted : (q : Test) (rs xs : List Row) → IsPermutation rs xs → all_counted q xs ≡ all_counted q rs
same-counted q rs xs h =
    let k = IsPermutation-sym rs xs h in
    same_tally
    (number-is q xs ∙ (sum_by-IsPermutation (λ r. (counted q r).count) rs xs h ∙ sym (number-is q rs)))
    (weight-is q xs ∙ (sum_by-IsPermutation (λ r. (counted q r).weight) rs xs h ∙ sym (weight-is q rs)))
    (same-first q xs rs (λ r m. Contains-permutation xs rs r k m) (λ r m. Contains-permutation rs xs r h m))

-- rows are distinct if an outcome has one row at most
one_if : Bool → ℕ
one_if true = 1
one_if false = 0

hit : List ℕ → List ℕ → Row → ℕ
hit output end r = one_if (test_for output end r.output r.end)

hit-self : (r : Row) → hit r.output r.end r ≡ 1
unfolding hit one_if
hit-self r = ap one_if (test-self r.output r.end)

hits-more : (o e : List ℕ) (r : Row) (rs : List Row) →
    sum_by (hit o e) (r ∷ rs) ≡ hit o e r + sum_by (hit o e) rs
hits-more o e r rs = sum_by-cons (hit o e) r rs

none-hit : (o e : List ℕ) (rs : List Row) → ((x : Row) → Contains rs x → o ≡ x.output → e ≡ x.end → ⊥) →
    sum_by (hit o e) rs ≡ 0
unfolding hit one_if
none-hit o e [] f = refl
none-hit o e (r ∷ rs) f =
    hits-more o e r rs
    ∙ by_test (test_for o e r.output r.end) refl (none-hit o e rs (λ x m. f x (contains-tail r x rs m)))
  where
    by_test : (b : Bool) → test_for o e r.output r.end ≡ b → sum_by (hit o e) rs ≡ 0 →
        one_if b + sum_by (hit o e) rs ≡ 0
    by_test true h ih = absurd (f r (contains-head r rs) (test-output o e r.output r.end h)
        (test-end o e r.output r.end h))
    by_test false h ih =
        let z : 0 + sum_by (hit o e) rs ≡ sum_by (hit o e) rs = omega arith in z ∙ ih

one-hit : (o e : List ℕ) (rs : List Row) → AreDistinct rs → sum_by (hit o e) rs ≤ 1
unfolding hit one_if
one-hit o e [] d = omega arith
one-hit o e (r ∷ rs) d =
    subst (λ n. n ≤ 1) (sym (hits-more o e r rs))
    (by_test (test_for o e r.output r.end) refl (one-hit o e rs d.1))
  where
    by_test : (b : Bool) → test_for o e r.output r.end ≡ b → sum_by (hit o e) rs ≤ 1 →
        one_if b + sum_by (hit o e) rs ≤ 1
    by_test true h ih =
        let n = none-hit o e rs (λ x m u v. d.0 x m (sym (test-output o e r.output r.end h) ∙ u)
        (sym (test-end o e r.output r.end h) ∙ v)) in
        omega (arith, n)
    by_test false h ih = omega (arith, ih)

some-hit : (rs : List Row) (x : Row) → Contains rs x → 1 ≤ sum_by (hit x.output x.end) rs
some-hit [] x m = absurd (contains-nil x m)
some-hit (r ∷ rs) x m =
    let more = hits-more x.output x.end r rs in
    elim (contains-cases r x rs m) [
      | inl e ↦
          let self : hit x.output x.end r ≡ 1 = ap (λ z. hit x.output x.end z) e ∙ hit-self x in
          omega (arith, more, self)
      | inr n ↦ let ih = some-hit rs x n in omega (arith, more, ih)
    ]

distinct-by : (rs : List Row) → ((o e : List ℕ) → sum_by (hit o e) rs ≤ 1) → AreDistinct rs
distinct-by [] f = tt
distinct-by (r ∷ rs) f = (
  λ x m a b.
      let most = f r.output r.end in
      let more = hits-more r.output r.end r rs in
      let self = hit-self r in
      let other : 1 ≤ sum_by (hit r.output r.end) rs =
      subst (λ z. 1 ≤ sum_by (hit z r.end) rs) (sym a)
      (subst (λ z. 1 ≤ sum_by (hit x.output z) rs) (sym b) (some-hit rs x m)) in
      omega (arith, most, more, self, other),
  distinct-by rs (λ o e. let most = f o e in let more = hits-more o e r rs in omega (arith, most, more)),
)

same-distinct : (rs xs : List Row) → IsPermutation rs xs → AreDistinct rs → AreDistinct xs
same-distinct rs xs h d =
    distinct-by xs (λ o e. let n = sum_by-IsPermutation (hit o e) rs xs h in let m = one-hit o e rs d in
    omega (arith, n, m))

-- the order by which rows are sorted
abbrev pub earlier : Outcome → Outcome → Bool
earlier x y = is_lt (slice_cmp bool_cmp x.first.items y.first.items)

pub earlier-ranks : IsStrictWeakOrder earlier
earlier-ranks = ranks_by (lists_total bool_cmp_total) (λ o. o.first.items)

not-earlier : (c d : List Bool) → is_lt (slice_cmp bool_cmp d c) ≡ false → lesser c d ≡ c
not-earlier [] d h = refl
not-earlier (x ∷ c) [] h = let z : true ≡ false = h in cc
not-earlier (false ∷ c) (false ∷ d) h = ap (λ z. false ∷ z) (not-earlier c d h)
not-earlier (false ∷ c) (true ∷ d) h = refl
not-earlier (true ∷ c) (false ∷ d) h = let z : true ≡ false = h in cc
not-earlier (true ∷ c) (true ∷ d) h = ap (λ z. true ∷ z) (not-earlier c d h)

ordered-by : (os : List Outcome) → ((i j : ℕ) (d : Outcome) → i ≤ j → j < length os →
    earlier (slice_index_or os j d) (slice_index_or os i d) ≡ false) → AreOrdered (rows_of os)
ordered-by [] f = tt
ordered-by (o ∷ os) f = (
  λ x m.
      let i = mapped-at row_of os o x m in
      let lt = i.1 in
      subst (λ z. lesser o.first.items z.first ≡ o.first.items) i.2
      (not-earlier o.first.items (slice_index_or os i.0 o).first.items
      (f 0 (suc i.0) o (omega arith) (omega (arith, lt)))),
  ordered-by os (λ i j d le lt. f (suc i) (suc j) d (omega (arith, le)) (omega (arith, lt))),
)

pub sorts_by_first : (os xs : List Outcome) → IsPermutation os xs → IsSortedBy earlier xs →
    Sorts (rows_of os) (rows_of xs)
sorts_by_first os xs h k =
    let p = IsPermutation-map row_of os xs h in
    record {
      same_counted = λ q. same-counted q (rows_of os) (rows_of xs) p;
      distinct = same-distinct (rows_of os) (rows_of xs) p;
      ordered = ordered-by xs (sorted_far earlier earlier-ranks xs k);
    }

-- counted rows in order are a summary
pub summary_of : (p : Program) (s : State) (limit : ℕ) (rs rs' : List Row) → limit ≤ 4294967295 →
    AreCounted p s limit rs → Sorts rs rs' → IsSummary p s limit rs'
summary_of p s limit rs rs' le h k =
    summary-is p s limit rs' le (λ q. h.counted_all q ∙ sym (k.same_counted q)) (k.distinct h.distinct) k.ordered
