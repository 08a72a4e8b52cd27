-- Proves that the rows are a summary if no node waits.
use Prim.Native.Nat.{zero, suc}
use Rattle.std.proofs.Common.{◌≡◌, ℕ, ◌*◌, ◌^◌, ◌≤◌, inl, inr, Bool, true, false, ◌&&◌, map}
use Rattle.std.proofs.Common.{List, [], ◌∷◌, Some, None, refl, ap, sym, ◌∙◌, subst, arith}
use Rattle.std.specs.List.{Contains}
use Rattle.ick_code.specs.meaning.State.{State}
use Rattle.ick_outcomes.specs.Programs.{Program, run, IsWhole}
use Rattle.ick_explorer.specs.Order.{IsBelow, IsIncreasing}
use Rattle.ick_outcomes.proofs.ProgramRuns.{compared}
use Rattle.ick_explorer.proofs.ListingLaws.{not_below_itself, contains-nil, contains-head, contains-tail, contains-cases}
use Rattle.ick_outcomes.specs.Weights.{whole, amount, shares}
use Rattle.ick_outcomes.specs.Tallies.{Test, Passes, Tally, lesser, lead, none, join, after, tally, stop_text}
use Rattle.ick_outcomes.proofs.Amounts.{amount-end}
use Rattle.ick_outcomes.specs.Summaries.{Row, HasOutcome, AreRunsOf, IsRow, IsSummary}
use Rattle.ick_outcomes.specs.Accounts.{counted_if, all_counted, AreApart, AreDistinct, AreOrdered}
use Rattle.ick_outcomes.proofs.Algebra.{join-none, none-join}
use Rattle.ick_outcomes.proofs.TallyRuns.{IsTallyOf, tallied}

-- whether two numbers, or two texts, are equal
abbrev same_number : ℕ → ℕ → Bool
same_number zero zero = true
same_number zero (suc n) = false
same_number (suc m) zero = false
same_number (suc m) (suc n) = same_number m n

number-self : (n : ℕ) → same_number n n ≡ true
number-self zero = refl
number-self (suc n) = number-self n

number-is : (m n : ℕ) → same_number m n ≡ true → m ≡ n
number-is zero zero h = refl
number-is zero (suc n) h = cc
number-is (suc m) zero h = cc
number-is (suc m) (suc n) h = ap suc (number-is m n h)

abbrev same_text : List ℕ → List ℕ → Bool
same_text [] [] = true
same_text [] (y ∷ ys) = false
same_text (x ∷ xs) [] = false
same_text (x ∷ xs) (y ∷ ys) = same_number x y && same_text xs ys

and-left : (a b : Bool) → (a && b) ≡ true → a ≡ true
and-left true b h = refl
and-left false b h = cc

and-right : (a b : Bool) → (a && b) ≡ true → b ≡ true
and-right true b h = h
and-right false b h = cc

and-both : (a b : Bool) → a ≡ true → b ≡ true → (a && b) ≡ true
and-both true b g h = h
and-both false b g h = cc

text-self : (xs : List ℕ) → same_text xs xs ≡ true
text-self [] = refl
text-self (x ∷ xs) = and-both (same_number x x) (same_text xs xs) (number-self x) (text-self xs)

text-is : (xs ys : List ℕ) → same_text xs ys ≡ true → xs ≡ ys
text-is [] [] h = refl
text-is [] (y ∷ ys) h = cc
text-is (x ∷ xs) [] h = cc
text-is (x ∷ xs) (y ∷ ys) h =
    ap (λ z. z ∷ xs) (number-is x y (and-left (same_number x y) (same_text xs ys) h))
    ∙ ap (λ zs. y ∷ zs) (text-is xs ys (and-right (same_number x y) (same_text xs ys) h))

-- the test for one outcome
pub test_for : List ℕ → List ℕ → Test
test_for output end = λ o e. same_text output o && same_text end e

pub test-self : (output end : List ℕ) → test_for output end output end ≡ true
unfolding test_for
test-self output end = and-both (same_text output output) (same_text end end) (text-self output) (text-self end)

pub test-output : (output end o e : List ℕ) → test_for output end o e ≡ true → output ≡ o
unfolding test_for
test-output output end o e h = text-is output o (and-left (same_text output o) (same_text end e) h)

pub test-end : (output end o e : List ℕ) → test_for output end o e ≡ true → end ≡ e
unfolding test_for
test-end output end o e h = text-is end e (and-right (same_text output o) (same_text end e) h)

-- no row passes the test
none_passing : (q : Test) (rs : List Row) → ((x : Row) → Contains rs x → q x.output x.end ≡ true → ⊥) →
    all_counted q rs ≡ none
none_passing q [] f = refl
none_passing q (r ∷ rs) f =
    by_test (q r.output r.end) refl (none_passing q rs (λ x m. f x (contains-tail r x rs m)))
  where
    by_test : (b : Bool) → q r.output r.end ≡ b → all_counted q rs ≡ none →
        join (counted_if b r.count r.weight r.first) (all_counted q rs) ≡ none
    by_test true e ih = absurd (f r (contains-head r rs) e)
    by_test false e ih = none-join (all_counted q rs) ∙ ih

-- one row alone passes the test for its outcome
one_passing : (rs : List Row) (r : Row) → Contains rs r → AreDistinct rs →
    all_counted (test_for r.output r.end) rs ≡ record { count = r.count; weight = r.weight; first = Some r.first }
one_passing [] r m d = absurd (contains-nil r m)
one_passing (x ∷ rs) r m d = elim (contains-cases x r rs m) [
  | inl e ↦
      subst (λ z. all_counted (test_for z.output z.end) (x ∷ rs)
      ≡ record { count = z.count; weight = z.weight; first = Some z.first }) e
      (ap (λ b. join (counted_if b x.count x.weight x.first) (all_counted (test_for x.output x.end) rs))
      (test-self x.output x.end)
      ∙ (ap (λ t. join (record { count = x.count; weight = x.weight; first = Some x.first }) t)
      (none_passing (test_for x.output x.end) rs
      (λ y n h. d.0 y n (test-output x.output x.end y.output y.end h) (test-end x.output x.end y.output y.end h)))
      ∙ join-none (record { count = x.count; weight = x.weight; first = Some x.first })))
  | inr n ↦ skip n (one_passing rs r n d.1) (test_for r.output r.end x.output x.end) refl
]
  where
    skip : Contains rs r →
        all_counted (test_for r.output r.end) rs ≡ record { count = r.count; weight = r.weight; first = Some r.first } →
        (b : Bool) → test_for r.output r.end x.output x.end ≡ b →
        join (counted_if b x.count x.weight x.first) (all_counted (test_for r.output r.end) rs)
        ≡ record { count = r.count; weight = r.weight; first = Some r.first }
    skip n ih true e = absurd (d.0 r n (sym (test-output r.output r.end x.output x.end e))
        (sym (test-end r.output r.end x.output x.end e)))
    skip n ih false e = none-join (all_counted (test_for r.output r.end) rs) ∙ ih

-- if something was counted, a row passes
some_passing : (q : Test) (rs : List Row) (c : List Bool) → (all_counted q rs).first ≡ Some c →
    (r : Row) × Contains rs r × (q r.output r.end ≡ true)
some_passing q [] c h = let x : None ≡ Some c = h in cc
some_passing q (r ∷ rs) c h = by_test (λ g. some_passing q rs c g) (q r.output r.end) refl h
  where
    by_test : ((all_counted q rs).first ≡ Some c → (x : Row) × Contains rs x × (q x.output x.end ≡ true)) →
        (b : Bool) → q r.output r.end ≡ b →
        (join (counted_if b r.count r.weight r.first) (all_counted q rs)).first ≡ Some c →
        (x : Row) × Contains (r ∷ rs) x × (q x.output x.end ≡ true)
    by_test ih true e g = (r, contains-head r rs, e)
    by_test ih false e g = let i = ih g in (i.0, contains-tail r i.0 rs i.1, i.2)

-- the runs that pass the test for an outcome have it
passes-has : (p : Program) (s : State) (l : ℕ) (r : Row) (c : List Bool) →
    Passes p s l (test_for r.output r.end) c → HasOutcome p s l r c
passes-has p s l r c h = record {
  whole = h.whole;
  same_output = sym (test-output r.output r.end _ _ h.passed);
  same_end = sym (test-end r.output r.end _ _ h.passed);
}

has-passes : (p : Program) (s : State) (l : ℕ) (r : Row) (c : List Bool) →
    HasOutcome p s l r c → Passes p s l (test_for r.output r.end) c
has-passes p s l r c h = record {
  whole = h.whole;
  passed = ap (λ o. test_for r.output r.end o (stop_text (run p s l c).stop)) h.same_output
      ∙ (ap (λ e. test_for r.output r.end r.output e) h.same_end ∙ test-self r.output r.end);
}

row-by : (p : Program) (s : State) (l : ℕ) (r : Row) (t : Tally) (cs : List (List Bool)) →
    after 1 (amount 1 0 l) [] t ≡ record { count = r.count; weight = r.weight; first = Some r.first } →
    l ≤ 4294967295 → IsTallyOf p s l (test_for r.output r.end) t cs → IsRow p s l r
row-by p s l r t [] e le u =
    let x : lead [] None ≡ Some r.first = ap (lead []) (sym u.earliest) ∙ ap (λ z. z.first) e in
    let y : None ≡ Some r.first = x in cc
row-by p s l r t (c ∷ cs) e le u =
    let x : lead [] (Some c) ≡ Some r.first = ap (lead []) (sym u.earliest) ∙ ap (λ z. z.first) e in
    let x' : Some c ≡ Some r.first = x in
    let y : c ≡ r.first = cc in
    let k : 1 * t.count ≡ t.count = omega arith in
    let w = amount 1 0 l in
    let h = 100 ^ l in
    let n = shares p s l (c ∷ cs) in
    let m : w * n * h ≡ w * h * n = grind arith in
    let one : amount 1 0 0 ≡ whole = omega arith in
    record {
      others = cs;
      runs = subst (λ z. AreRunsOf p s l r (z ∷ cs)) y (record {
        increasing = u.increasing;
        sound = λ d m. passes-has p s l r d (u.sound d m);
        complete = λ d h. u.complete d (has-passes p s l r d h);
      });
      counted = sym (ap (λ z. z.count) e) ∙ (k ∙ u.counted);
      weighed = subst (λ z. r.weight * h ≡ whole * shares p s l (z ∷ cs)) y
          (ap (λ z. z * h) (sym (ap (λ z. z.weight) e) ∙ ap (λ z. w * z) u.weighed)
          ∙ (m ∙ ap (λ z. z * n) (amount-end 1 0 l (omega (arith, le)) ∙ one)));
    }

row-is : (p : Program) (s : State) (l : ℕ) (rs : List Row) → l ≤ 4294967295 →
    ((q : Test) → after 1 (amount 1 0 l) [] (tally p s l q) ≡ all_counted q rs) →
    AreDistinct rs → (r : Row) → Contains rs r → IsRow p s l r
row-is p s l rs le f d r m =
    let q = test_for r.output r.end in
    let u = tallied p s l q in
    row-by p s l r (tally p s l q) u.0 (f q ∙ one_passing rs r m d) le u.1

some-by : (p : Program) (s : State) (l : ℕ) (q : Test) (t : Tally) (cs : List (List Bool)) (c : List Bool) →
    IsTallyOf p s l q t cs → Passes p s l q c → (d : List Bool) × (t.first ≡ Some d)
some-by p s l q t [] c u h = absurd (contains-nil c (u.complete c h))
some-by p s l q t (d ∷ cs) c u h = (d, u.earliest)

complete-is : (p : Program) (s : State) (l : ℕ) (rs : List Row) →
    ((q : Test) → after 1 (amount 1 0 l) [] (tally p s l q) ≡ all_counted q rs) →
    (c : List Bool) → IsWhole p s l c → (r : Row) × Contains rs r × HasOutcome p s l r c
complete-is p s l rs f c w =
    let o = (run p s l c).last.output in
    let e = stop_text (run p s l c).stop in
    let q = test_for o e in
    let u = tallied p s l q in
    let h : Passes p s l q c = record { whole = w; passed = test-self o e } in
    let d = some-by p s l q (tally p s l q) u.0 c u.1 h in
    let r = some_passing q rs d.0 (sym (ap (λ z. z.first) (f q)) ∙ ap (lead []) d.1) in (
      r.0,
      r.1,
      record {
        whole = w;
        same_output = test-output o e r.0.output r.0.end r.2;
        same_end = test-end o e r.0.output r.0.end r.2;
      },
    )

pub lesser-flip : (c d : List Bool) → IsBelow d c → lesser c d ≡ d
lesser-flip [] [] h = absurd h
lesser-flip [] (y ∷ d) h = absurd h
lesser-flip (x ∷ c) [] h = absurd h
lesser-flip (false ∷ c) (false ∷ d) h = ap (λ x. false ∷ x) (lesser-flip c d h)
lesser-flip (false ∷ c) (true ∷ d) h = absurd h
lesser-flip (true ∷ c) (false ∷ d) h = refl
lesser-flip (true ∷ c) (true ∷ d) h = ap (λ x. true ∷ x) (lesser-flip c d h)

-- the first run of a row has its outcome
pub first-has : (p : Program) (s : State) (l : ℕ) (r : Row) → IsRow p s l r → HasOutcome p s l r r.first
first-has p s l r h = h.runs.sound r.first (contains-head r.first h.others)

below-later : (p : Program) (s : State) (l : ℕ) (r x : Row) → IsRow p s l r → IsRow p s l x → AreApart r x →
    lesser r.first x.first ≡ r.first → IsBelow r.first x.first
below-later p s l r x h k apart e =
    let u = first-has p s l r h in
    let v = first-has p s l x k in
    elim (compared p s l r.first x.first u.whole v.whole) [
      | inl y ↦ absurd (apart
          (sym u.same_output ∙ (ap (λ c. (run p s l c).last.output) y ∙ v.same_output))
          (sym u.same_end ∙ (ap (λ c. stop_text (run p s l c).stop) y ∙ v.same_end)))
      | inr (inl y) ↦ y
      | inr (inr y) ↦
          let z : x.first ≡ r.first = sym (lesser-flip r.first x.first y) ∙ e in
          absurd (not_below_itself r.first (subst (λ c. IsBelow c r.first) z y))
    ]

map-first : (rs : List Row) (c : List Bool) → Contains (map (λ r. r.first) rs) c →
    (r : Row) × Contains rs r × (r.first ≡ c)
map-first [] c m = absurd (contains-nil c m)
map-first (r ∷ rs) c m = elim (contains-cases r.first c (map (λ r. r.first) rs) m) [
  | inl e ↦ (r, contains-head r rs, e)
  | inr n ↦ let i = map-first rs c n in (i.0, contains-tail r i.0 rs i.1, i.2)
]

increasing-is : (p : Program) (s : State) (l : ℕ) (rs : List Row) → ((r : Row) → Contains rs r → IsRow p s l r) →
    AreDistinct rs → AreOrdered rs → IsIncreasing (map (λ r. r.first) rs)
increasing-is p s l [] f d o = tt
increasing-is p s l (r ∷ rs) f d o = (
  λ c m. let i = map-first rs c m in
      subst (λ z. IsBelow r.first z) i.2
      (below-later p s l r i.0 (f r (contains-head r rs)) (f i.0 (contains-tail r i.0 rs i.1)) (d.0 i.0 i.1)
      (o.0 i.0 i.1)),
  increasing-is p s l rs (λ x m. f x (contains-tail r x rs m)) d.1 o.1,
)

-- if all runs are in rows, with different outcomes and in order, the rows are a summary
pub summary-is : (p : Program) (s : State) (l : ℕ) (rs : List Row) → l ≤ 4294967295 →
    ((q : Test) → after 1 (amount 1 0 l) [] (tally p s l q) ≡ all_counted q rs) →
    AreDistinct rs → AreOrdered rs → IsSummary p s l rs
summary-is p s l rs le f d o =
    record {
      sound = row-is p s l rs le f d;
      complete = complete-is p s l rs f;
      increasing = increasing-is p s l rs (row-is p s l rs le f d) d o;
    }
