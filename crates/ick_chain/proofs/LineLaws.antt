-- Proves that lines have all rows, in order.
use Prim.Native.Nat.{suc}
use Rattle.std.proofs.Common.{◌≡◌, inl, inr, ℕ, ◌+◌, ◌<◌, ◌≤◌, Bool, true, false, List, [], ◌∷◌, map, length}
use Rattle.std.proofs.Common.{Option, Some, None, refl, ap, sym, ◌∙◌, subst, arith, slice_get}
use Rattle.std.proofs.Common.{slice_index_or}
use Rattle.std.specs.Cmp.{bool_cmp_total, IsStrictWeakOrder}
use Rattle.std.specs.Cmp.Lexicographic.{slice_cmp}
use Rattle.std.specs.List.{Contains, sum_by}
use Rattle.std.specs.List.Sorted.{IsPermutation, IsSortedBy}
use Rattle.std.specs.Ordering.{bool_cmp, is_lt}
use Rattle.std.proofs.lemmas.Cmp.{lists_total}
use Rattle.std.proofs.lemmas.List.Sorted.{IsPermutation-map, IsPermutation-sym, Contains-permutation}
use Rattle.std.proofs.lemmas.List.Sorted.{sum_by-IsPermutation, sorted_far, ranks_by}
use Rattle.std.proofs.lemmas.List.Sums.{sum_by-cons}
use Rattle.ick_code.specs.meaning.State.{State}
use Rattle.ick_outcomes.specs.Programs.{Program, run}
use Rattle.ick_explorer.specs.Order.{IsBelow, IsIncreasing}
use Rattle.ick_explorer.proofs.ListingLaws.{contains-nil, contains-head, contains-tail, contains-cases}
use Rattle.ick_explorer.proofs.ListingLaws.{not_below_itself}
use Rattle.ick_outcomes.proofs.ProgramRuns.{compared}
use Rattle.ick_outcomes.specs.Tallies.{Test as OutcomeTest, lesser, stop_text}
use Rattle.ick_outcomes.proofs.Ends.{lesser-flip, test_for, test-self, test-output, test-end}
use Rattle.ick_outcomes.proofs.Lists.{mapped-at}
use Rattle.ick_chain.specs.Counts.{AreCounted}
use Rattle.ick_chain.specs.ExactListings.{Line, AreLines, IsLine, IsRun, HasRuns}
use Rattle.ick_chain.specs.Fewest.{AreFewest}
use Rattle.ick_chain.specs.Firsts.{AreSoonest}
use Rattle.ick_chain.specs.Chains.{IsExact}
use Rattle.ick_chain.specs.Limits.{Test, all_if}
use Rattle.ick_chain.specs.Lines.{AreEndless, AreInOrder, AreMade, IsMade, Sorts, line_of, lines_of, one_of, row_in}
use Rattle.ick_chain.specs.Rows.{Row, AreDistinct, AreRows, AreApart, weight_of}
use Rattle.ick_chain.specs.Shown.{AreShown, IsShown}
use Rattle.ick_chain.specs.declared.line.Line.{Line as KeptLine}
use Rattle.ick_chain.proofs.RowLaws.{are_rows}

-- the weight of rows is a sum
weight-is : (q : OutcomeTest) (rs : List Row) →
    weight_of q rs ≡ sum_by (λ (r : Row). all_if (q r.output r.end) r.weight) rs
weight-is q [] = refl
weight-is q (r ∷ rs) =
    ap (λ n. all_if (q r.output r.end) r.weight + n) (weight-is q rs)
    ∙ sym (sum_by-cons (λ (r : Row). all_if (q r.output r.end) r.weight) r rs)

-- rows are distinct if an outcome has one row at most
one_if : Bool → ℕ
one_if true = 1
one_if false = 0

hit : List ℕ → List ℕ → Row → ℕ
hit output end r = one_if (test_for output end r.output r.end)

hit-self : (r : Row) → hit r.output r.end r ≡ 1
unfolding hit one_if
hit-self r = ap one_if (test-self r.output r.end)

hits-more : (o e : List ℕ) (r : Row) (rs : List Row) → sum_by (hit o e) (r ∷ rs) ≡ hit o e r + sum_by (hit o e) rs
hits-more o e r rs = sum_by-cons (hit o e) r rs

none-hit : (o e : List ℕ) (rs : List Row) → ((x : Row) → Contains rs x → o ≡ x.output → e ≡ x.end → ⊥) →
    sum_by (hit o e) rs ≡ 0
unfolding hit one_if
none-hit o e [] f = refl
none-hit o e (r ∷ rs) f =
    hits-more o e r rs
    ∙ by_test (test_for o e r.output r.end) refl (none-hit o e rs (λ x m. f x (contains-tail r x rs m)))
  where
    by_test : (b : Bool) → test_for o e r.output r.end ≡ b → sum_by (hit o e) rs ≡ 0 →
        one_if b + sum_by (hit o e) rs ≡ 0
    by_test true h ih = absurd (f r (contains-head r rs) (test-output o e r.output r.end h)
        (test-end o e r.output r.end h))
    by_test false h ih =
        let z : 0 + sum_by (hit o e) rs ≡ sum_by (hit o e) rs = omega arith in z ∙ ih

one-hit : (o e : List ℕ) (rs : List Row) → AreDistinct rs → sum_by (hit o e) rs ≤ 1
unfolding hit one_if
one-hit o e [] d = omega arith
one-hit o e (r ∷ rs) d =
    subst (λ n. n ≤ 1) (sym (hits-more o e r rs))
    (by_test (test_for o e r.output r.end) refl (one-hit o e rs d.1))
  where
    by_test : (b : Bool) → test_for o e r.output r.end ≡ b → sum_by (hit o e) rs ≤ 1 →
        one_if b + sum_by (hit o e) rs ≤ 1
    by_test true h ih =
        let n = none-hit o e rs (λ x m u v. d.0 x m (sym (test-output o e r.output r.end h) ∙ u)
        (sym (test-end o e r.output r.end h) ∙ v)) in
        omega (arith, n)
    by_test false h ih = omega (arith, ih)

some-hit : (rs : List Row) (x : Row) → Contains rs x → 1 ≤ sum_by (hit x.output x.end) rs
some-hit [] x m = absurd (contains-nil x m)
some-hit (r ∷ rs) x m =
    let more = hits-more x.output x.end r rs in
    elim (contains-cases r x rs m) [
      | inl e ↦
          let self : hit x.output x.end r ≡ 1 = ap (λ z. hit x.output x.end z) e ∙ hit-self x in
          omega (arith, more, self)
      | inr n ↦ let ih = some-hit rs x n in omega (arith, more, ih)
    ]

distinct-by : (rs : List Row) → ((o e : List ℕ) → sum_by (hit o e) rs ≤ 1) → AreDistinct rs
distinct-by [] f = tt
distinct-by (r ∷ rs) f = (
  λ x m a b.
      let most = f r.output r.end in
      let more = hits-more r.output r.end r rs in
      let self = hit-self r in
      let other : 1 ≤ sum_by (hit r.output r.end) rs =
      subst (λ z. 1 ≤ sum_by (hit z r.end) rs) (sym a)
      (subst (λ z. 1 ≤ sum_by (hit x.output z) rs) (sym b) (some-hit rs x m)) in
      omega (arith, most, more, self, other),
  distinct-by rs (λ o e. let most = f o e in let more = hits-more o e r rs in omega (arith, most, more)),
)

-- rows in another order are rows
same-rows : (weight : Test → ℕ) (rs xs : List Row) → IsPermutation rs xs → AreRows weight rs → AreRows weight xs
same-rows weight rs xs h a =
    are_rows weight xs
    (distinct-by xs (λ o e. let n = sum_by-IsPermutation (hit o e) rs xs h in
    let m = one-hit o e rs a.distinct in omega (arith, n, m)))
    (λ q. weight-is q xs ∙ (sum_by-IsPermutation (λ (r : Row). all_if (q r.output r.end) r.weight) rs xs h
    ∙ (sym (weight-is q rs) ∙ sym (a.whole q))))

-- the order by which lines are sorted
abbrev pub earlier : KeptLine → KeptLine → Bool
earlier x y = is_lt (slice_cmp bool_cmp x.shown.items y.shown.items)

pub earlier-ranks : IsStrictWeakOrder earlier
earlier-ranks = ranks_by (lists_total bool_cmp_total) (λ (l : KeptLine). l.shown.items)

not-earlier : (c d : List Bool) → is_lt (slice_cmp bool_cmp d c) ≡ false → lesser c d ≡ c
not-earlier [] d h = refl
not-earlier (x ∷ c) [] h = let z : true ≡ false = h in cc
not-earlier (false ∷ c) (false ∷ d) h = ap (λ z. false ∷ z) (not-earlier c d h)
not-earlier (false ∷ c) (true ∷ d) h = refl
not-earlier (true ∷ c) (false ∷ d) h = let z : true ≡ false = h in cc
not-earlier (true ∷ c) (true ∷ d) h = ap (λ z. true ∷ z) (not-earlier c d h)

ordered-by : (ls : List KeptLine) → ((i j : ℕ) (d : KeptLine) → i ≤ j → j < length ls →
    earlier (slice_index_or ls j d) (slice_index_or ls i d) ≡ false) → AreInOrder (lines_of ls)
ordered-by [] f = tt
ordered-by (l ∷ ls) f = (
  λ x m.
      let i = mapped-at line_of ls l x m in
      let lt = i.1 in
      subst (λ (z : Line). lesser l.shown.items z.shown ≡ l.shown.items) i.2
      (not-earlier l.shown.items (slice_index_or ls i.0 l).shown.items
      (f 0 (suc i.0) l (omega arith) (omega (arith, lt)))),
  ordered-by ls (λ i j d le lt. f (suc i) (suc j) d (omega (arith, le)) (omega (arith, lt))),
)

pub sorts_by_shown : (ls xs : List KeptLine) → IsPermutation ls xs → IsSortedBy earlier xs →
    Sorts (lines_of ls) (lines_of xs)
sorts_by_shown ls xs h k = record {
  same = IsPermutation-map line_of ls xs h;
  ordered = ordered-by xs (sorted_far earlier earlier-ranks xs k);
}

-- of two lines with different outcomes, the one that isn't behind is below
below-later : (p : Program) (s : State) (l x : Line) → IsLine p s l → IsLine p s x → AreApart l.row x.row →
    lesser l.shown x.shown ≡ l.shown → IsBelow l.shown x.shown
below-later p s l x h k apart e =
    let n = h.shown.least + k.shown.least in
    let u = h.shown.has n (omega arith) in
    let v = k.shown.has n (omega arith) in
    elim (compared p s n l.shown x.shown u.whole v.whole) [
      | inl y ↦ absurd (apart
          (sym u.same_output ∙ (ap (λ c. (run p s n c).last.output) y ∙ v.same_output))
          (sym u.same_end ∙ (ap (λ c. stop_text (run p s n c).stop) y ∙ v.same_end)))
      | inr (inl y) ↦ y
      | inr (inr y) ↦
          let z : x.shown ≡ l.shown = sym (lesser-flip l.shown x.shown y) ∙ e in
          absurd (not_below_itself l.shown (subst (λ c. IsBelow c l.shown) z y))
    ]

map-shown : (ls : List Line) (c : List Bool) → Contains (map (λ (l : Line). l.shown) ls) c →
    (l : Line) × Contains ls l × (l.shown ≡ c)
map-shown [] c m = absurd (contains-nil c m)
map-shown (l ∷ ls) c m = elim (contains-cases l.shown c (map (λ (l : Line). l.shown) ls) m) [
  | inl e ↦ (l, contains-head l ls, e)
  | inr n ↦ let i = map-shown ls c n in (i.0, contains-tail l i.0 ls i.1, i.2)
]

map-row : (ls : List Line) (l : Line) → Contains ls l → Contains (map row_in ls) l.row
map-row [] l m = absurd (contains-nil l m)
map-row (x ∷ ls) l m = elim (contains-cases x l ls m) [
  | inl e ↦ subst (λ (z : Line). Contains (map row_in (x ∷ ls)) z.row) e (contains-head x.row (map row_in ls))
  | inr n ↦ contains-tail x.row l.row (map row_in ls) (map-row ls l n)
]

increasing-is : (p : Program) (s : State) (ls : List Line) → ((l : Line) → Contains ls l → IsLine p s l) →
    AreDistinct (map row_in ls) → AreInOrder ls → IsIncreasing (map (λ (l : Line). l.shown) ls)
increasing-is p s [] f d o = tt
increasing-is p s (l ∷ ls) f d o = (
  λ c m. let i = map-shown ls c m in
      subst (λ z. IsBelow l.shown z) i.2
      (below-later p s l i.0 (f l (contains-head l ls)) (f i.0 (contains-tail l i.0 ls i.1))
      (d.0 i.0.row (map-row ls i.0 i.1)) (o.0 i.0 i.1)),
  increasing-is p s ls (λ x m. f x (contains-tail l x ls m)) d.1 o.1,
)

-- each line that was made has the number of its runs and one of them
made-line : (p : Program) (s : State) (rows : List Row) (counts : List (Option ℕ)) (shown first : List (List Bool))
    (l : Line) → AreCounted p s rows counts → AreEndless p s rows counts → AreFewest p s rows shown →
    AreShown p s rows first → AreSoonest p s rows counts first → IsMade rows counts shown first l → IsLine p s l
made-line p s rows counts shown first l a b c d o m = record {
  counted = by_count l.count m.count;
  shown = is-shown l.count (is-run l.count m.count m.run);
  run = is-run l.count m.count m.run;
}
  where
    is-run : (n : Option ℕ) → slice_get counts m.at ≡ Some n →
        slice_get (one_of n shown first) m.at ≡ Some l.shown → IsRun p s l.row n l.shown
    is-run None k e = c.each m.at l.row l.shown m.row e
    is-run (Some n) k e =
        record { shown = d.each m.at l.row l.shown m.row e; first = o m.at n l.row l.shown m.row k e }

    is-shown : (n : Option ℕ) → IsRun p s l.row n l.shown → IsShown p s l.row.output l.row.end l.shown
    is-shown None h = h.shown
    is-shown (Some n) h = h.shown

    by_count : (n : Option ℕ) → slice_get counts m.at ≡ Some n → HasRuns p s l.row n
    by_count None e = b m.at l.row m.row e
    by_count (Some n) e = a.each m.at l.row n m.row e

-- lines that were made from exact rows and then sorted
pub are_lines : (p : Program) (s : State) (parts never steps : ℕ) (weight : Test → ℕ) (rows : List Row)
    (counts : List (Option ℕ)) (shown first : List (List Bool)) (ls xs : List Line) →
    IsExact p s parts weight never steps → AreRows weight rows → AreCounted p s rows counts →
    AreEndless p s rows counts → AreFewest p s rows shown → AreShown p s rows first →
    AreSoonest p s rows counts first → AreMade rows counts shown first ls → Sorts ls xs → AreLines p s parts never xs
are_lines p s parts never steps weight rows counts shown first ls xs exact are counted endless c d o made sorts =
    let back = IsPermutation-sym ls xs sorts.same in
    let rows' : AreRows weight (map row_in xs) =
    same-rows weight (map row_in ls) (map row_in xs) (IsPermutation-map row_in ls xs sorts.same)
    (subst (AreRows weight) (sym made.rows_are) are) in
    let each : (l : Line) → Contains xs l → IsLine p s l =
    λ l m. made-line p s rows counts shown first l counted endless c d o
    (made.each l (Contains-permutation xs ls l back m)) in
    record {
      weight = weight;
      steps = steps;
      exact = exact;
      rows = rows';
      each = each;
      increasing = increasing-is p s xs each rows'.distinct sorts.ordered;
    }
