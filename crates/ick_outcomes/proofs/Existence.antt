-- Proves that a program has a summary.
use Prim.Native.Nat.{zero, suc}
use Rattle.std.proofs.Common.{◌≡◌, ◌⊎◌, inl, inr, ℕ, ◌+◌, ◌*◌, ◌-◌, ◌^◌, ◌≤◌, Bool, true, false, List, []}
use Rattle.std.proofs.Common.{◌∷◌, ◌++◌, Some, refl, ap, sym, ◌∙◌, subst, arith, slice_get, slice_set}
use Rattle.std.proofs.lemmas.Bool.{false≢true}
use Rattle.std.specs.List.{Contains}
use Rattle.ick_code.specs.meaning.State.{State, Ending}
use Rattle.ick_code.specs.meaning.Move.{Asking, plain, choice, ended}
use Rattle.ick_outcomes.specs.Programs.{ask, advance, Program}
use Rattle.ick_backtrack.specs.Asked.{IsGoing}
use Rattle.ick_outcomes.specs.Tallies.{Test, lesser, join}
use Rattle.ick_outcomes.specs.Weights.{amount}
use Rattle.ick_outcomes.specs.Summaries.{Row, IsSummary}
use Rattle.ick_outcomes.specs.Accounts.{Pending, ahead, counted, all_counted, AreApart, AreDistinct, AreOrdered}
use Rattle.ick_outcomes.specs.Accounts.{Counts, Sorts, chosen}
use Rattle.ick_outcomes.proofs.Algebra.{join-assoc, join-none, lesser-assoc, lesser-swap}
use Rattle.ick_explorer.proofs.ListingLaws.{contains-nil, contains-head, contains-tail, contains-cases}
use Rattle.ick_outcomes.proofs.Ends.{test_for, test-self, test-output, test-end}
use Rattle.ick_outcomes.proofs.OrderedRows.{summary_of}
use Rattle.ick_outcomes.proofs.Sums.{join-front, counts-set, counts-push}
use Rattle.ick_outcomes.proofs.Sums.{ahead-ended, ahead-limit, ahead-choice, ahead-runs}
use Rattle.ick_outcomes.proofs.Uses.{one_step}

-- a row with the outcome of another, among rows
record Found (rs : List Row) (r : Row) : Type 0 where
  at : ℕ
  row : Row
  is : slice_get rs at ≡ Some row
  same_output : row.output ≡ r.output
  same_end : row.end ≡ r.end

find-row : (rs : List Row) (r : Row) → Found rs r ⊎ ((x : Row) → Contains rs x → AreApart x r)
find-row [] r = inr (λ x m. absurd (contains-nil x m))
find-row (y ∷ rs) r = by_test (test_for y.output y.end r.output r.end) refl (find-row rs r)
  where
    by_test : (b : Bool) → test_for y.output y.end r.output r.end ≡ b →
        Found rs r ⊎ ((x : Row) → Contains rs x → AreApart x r) →
        Found (y ∷ rs) r ⊎ ((x : Row) → Contains (y ∷ rs) x → AreApart x r)
    by_test true h rest = inl (record {
      at = 0;
      row = y;
      is = refl;
      same_output = test-output y.output y.end r.output r.end h;
      same_end = test-end y.output y.end r.output r.end h;
    })
    by_test false h (inl f) =
        inl (record { at = suc f.at; row = f.row; is = f.is; same_output = f.same_output; same_end = f.same_end })
    by_test false h (inr f) = inr (λ x m. elim (contains-cases y x rs m) [
      | inl e ↦ λ a b.
          let o : y.output ≡ r.output = ap (λ z. z.output) e ∙ a in
          let d : y.end ≡ r.end = ap (λ z. z.end) e ∙ b in
          let t : test_for y.output y.end r.output r.end ≡ true =
          subst (λ z. test_for y.output y.end z r.end ≡ true) o
          (subst (λ z. test_for y.output y.end y.output z ≡ true) d (test-self y.output y.end)) in
          false≢true (sym h ∙ t)
      | inr n ↦ f x n
    ])

-- the runs of a row can be added to rows
add-row : (rs : List Row) (r : Row) → (xs : List Row) × Counts rs r xs
add-row rs r = elim (find-row rs r) [
  | inl f ↦
      let x = f.row in
      let y : Row = record x {
        count = x.count + r.count;
        weight = x.weight + r.weight;
        first = lesser x.first r.first;
      } in
      (slice_set rs f.at y, counts-set rs f.at x r y f.is f.same_output f.same_end refl)
  | inr f ↦ (rs ++ r ∷ [], counts-push rs r f)
]

-- all runs from a node were added to rows
record Adds (n : Pending) (rs xs : List Row) : Type 0 where
  added : (q : Test) → all_counted q xs ≡ join (ahead q n) (all_counted q rs)
  apart : AreDistinct xs

HasRows : Pending → List Row → Type 0
HasRows n rs = (xs : List Row) × Adds n rs xs

adds-row : (n : Pending) (rs : List Row) (r : Row) → AreDistinct rs → ((q : Test) → ahead q n ≡ counted q r) →
    HasRows n rs
unfolding HasRows
adds-row n rs r d f =
    let a = add-row rs r in (
      a.0,
      record {
        added = λ q. a.1.added q ∙ ap (λ t. join t (all_counted q rs)) (sym (f q));
        apart = a.1.apart d;
      },
    )

ended-rows : (n : Pending) (rs : List Row) (e : Ending) → AreDistinct rs →
    ask n.at.program n.at.state ≡ ended e → HasRows n rs
ended-rows n rs e d h = adds-row n rs _ d (λ q. ahead-ended q n e h)

limit-rows : (n : Pending) (rs : List Row) → AreDistinct rs → n.left ≡ 0 →
    IsGoing (ask n.at.program n.at.state) → HasRows n rs
limit-rows n rs d z g = adds-row n rs _ d (λ q. ahead-limit q n g z)

last-rows : (n : Pending) (rs : List Row) (a : Asking) → AreDistinct rs → n.left ≡ 0 →
    ask n.at.program n.at.state ≡ a → HasRows n rs
last-rows n rs (ended e) d z h = ended-rows n rs e d h
last-rows n rs plain d z h = limit-rows n rs d z (subst IsGoing (sym h) tt)
last-rows n rs (choice k) d z h = limit-rows n rs d z (subst IsGoing (sym h) tt)

step-rows : (n : Pending) (rs : List Row) (l : ℕ) (a : Asking) → AreDistinct rs → n.left ≡ suc l →
    ask n.at.program n.at.state ≡ a →
    ((m : Pending) (xs : List Row) → AreDistinct xs → m.left ≡ l → HasRows m xs) → HasRows n rs
unfolding HasRows
step-rows n rs l (ended e) d z h rest = ended-rows n rs e d h
step-rows n rs l plain d z h rest =
    let u = advance n.at.program n.at.state false in
    let m : Pending = record {
      at = record { program = n.at.program; state = u };
      left = n.left - 1;
      count = n.count;
      weight = n.weight * 100 ^ 1;
      choices = n.choices;
    } in
    let r = rest m rs d (omega (arith, z)) in (
      r.0,
      record {
        added = λ q. r.1.added q
            ∙ ap (λ t. join t (all_counted q rs))
            (sym (ahead-runs q n 1 u (one_step n.at.program n.at.state u h refl) (omega (arith, z))));
        apart = r.1.apart;
      },
    )
step-rows n rs l (choice k) d z h rest =
    let zero = chosen k n false in
    let one = chosen k n true in
    let a = rest zero rs d (omega (arith, z)) in
    let b = rest one a.0 a.1.apart (omega (arith, z)) in (
      b.0,
      record {
        added = λ q. b.1.added q
            ∙ (ap (λ t. join (ahead q one) t) (a.1.added q)
            ∙ (join-front (ahead q one) (ahead q zero) (all_counted q rs)
            ∙ (sym (join-assoc (ahead q zero) (ahead q one) (all_counted q rs))
            ∙ ap (λ t. join t (all_counted q rs)) (sym (ahead-choice q n k h (omega (arith, z)))))));
        apart = b.1.apart;
      },
    )

rows-after : (l : ℕ) (n : Pending) (rs : List Row) → AreDistinct rs → n.left ≡ l → HasRows n rs
rows-after zero n rs d z = last-rows n rs (ask n.at.program n.at.state) d z refl
rows-after (suc l) n rs d z =
    step-rows n rs l (ask n.at.program n.at.state) d z refl (λ m xs e f. rows-after l m xs e f)

-- of two lists one is the earlier
lesser-either : (c d : List Bool) → (lesser c d ≡ c) ⊎ (lesser c d ≡ d)
lesser-either [] d = inl refl
lesser-either (x ∷ c) [] = inr refl
lesser-either (false ∷ c) (false ∷ d) =
    elim (lesser-either c d) [ inl e ↦ inl (ap (λ z. false ∷ z) e) | inr e ↦ inr (ap (λ z. false ∷ z) e) ]
lesser-either (false ∷ c) (true ∷ d) = inl refl
lesser-either (true ∷ c) (false ∷ d) = inr refl
lesser-either (true ∷ c) (true ∷ d) =
    elim (lesser-either c d) [ inl e ↦ inl (ap (λ z. true ∷ z) e) | inr e ↦ inr (ap (λ z. true ∷ z) e) ]

lesser-chain : (b c d : List Bool) → lesser b c ≡ b → lesser c d ≡ c → lesser b d ≡ b
lesser-chain b c d e f =
    ap (λ z. lesser z d) (sym e) ∙ (lesser-assoc b c d ∙ (ap (lesser b) f ∙ e))

-- a row was put into rows at its index
record Inserts (r : Row) (rs xs : List Row) : Type 0 where
  same_counted : (q : Test) → all_counted q xs ≡ join (counted q r) (all_counted q rs)
  ordered : AreOrdered xs
  members : (x : Row) → Contains xs x → (r ≡ x) ⊎ Contains rs x
  distinct : ((x : Row) → Contains rs x → AreApart r x) → AreDistinct rs → AreDistinct xs

insert : (r : Row) (rs : List Row) → AreOrdered rs → (xs : List Row) × Inserts r rs xs
insert r [] o = (
  r ∷ [],
  record {
    same_counted = λ q. refl;
    ordered = ((λ x m. absurd (contains-nil x m)), tt);
    members = λ x m. contains-cases r x [] m;
    distinct = λ f d. ((λ x m. absurd (contains-nil x m)), tt);
  },
)
insert r (y ∷ rs) o = elim (lesser-either r.first y.first) [
  | inl e ↦ (
    r ∷ y ∷ rs,
    record {
      same_counted = λ q. refl;
      ordered = (
        (λ x m. elim (contains-cases y x rs m) [
          | inl same ↦ subst (λ z. lesser r.first z.first ≡ r.first) same e
          | inr n ↦ lesser-chain r.first y.first x.first e (o.0 x n)
        ]),
        o,
      );
      members = λ x m. contains-cases r x (y ∷ rs) m;
      distinct = λ f d. (f, d);
    },
  )
  | inr e ↦
      let i = insert r rs o.1 in (
        y ∷ i.0,
        record {
          same_counted = λ q. ap (λ t. join (counted q y) t) (i.1.same_counted q)
              ∙ join-front (counted q y) (counted q r) (all_counted q rs);
          ordered = (
            (λ x m. elim (i.1.members x m) [
              | inl same ↦ subst (λ z. lesser y.first z.first ≡ y.first) same (lesser-swap y.first r.first ∙ e)
              | inr n ↦ o.0 x n
            ]),
            i.1.ordered,
          );
          members = λ x m. elim (contains-cases y x i.0 m) [
            | inl same ↦ inr (subst (Contains (y ∷ rs)) same (contains-head y rs))
            | inr n ↦ elim (i.1.members x n) [ inl same ↦ inl same | inr k ↦ inr (contains-tail y x rs k) ]
          ];
          distinct = λ f d. (
            (λ x m. elim (i.1.members x m) [
              | inl same ↦ subst (AreApart y) same (λ a b. f y (contains-head y rs) (sym a) (sym b))
              | inr n ↦ d.0 x n
            ]),
            i.1.distinct (λ x m. f x (contains-tail y x rs m)) d.1,
          );
        },
      )
]

-- rows can be sorted
record IsSorted (rs xs : List Row) : Type 0 where
  sorts : Sorts rs xs
  members : (x : Row) → Contains xs x → Contains rs x

sort : (rs : List Row) → (xs : List Row) × IsSorted rs xs
sort [] = (
  [],
  record {
    sorts = record { same_counted = λ q. refl; distinct = λ d. d; ordered = tt };
    members = λ x m. m;
  },
)
sort (r ∷ rs) =
    let s = sort rs in
    let i = insert r s.0 s.1.sorts.ordered in (
      i.0,
      record {
        sorts = record {
          same_counted = λ q. i.1.same_counted q
              ∙ ap (λ t. join (counted q r) t) (s.1.sorts.same_counted q);
          distinct = λ d. i.1.distinct (λ x m. d.0 x (s.1.members x m)) (s.1.sorts.distinct d.1);
          ordered = i.1.ordered;
        };
        members = λ x m. elim (i.1.members x m) [
          | inl same ↦ subst (Contains (r ∷ rs)) same (contains-head r rs)
          | inr n ↦ contains-tail r x rs (s.1.members x n)
        ];
      },
    )

pub summary-exists : (p : Program) (s : State) (limit : ℕ) → limit ≤ 4294967295 →
    (rs : List Row) × IsSummary p s limit rs
unfolding HasRows
summary-exists p s limit le =
    let n : Pending = record {
      at = record { program = p; state = s };
      left = limit;
      count = 1;
      weight = amount 1 0 limit;
      choices = [];
    } in
    let a = rows-after limit n [] tt refl in
    let t = sort a.0 in (
      t.0,
      summary_of p s limit a.0 t.0 le (record {
        counted_all = λ q. sym (a.1.added q ∙ join-none (ahead q n));
        distinct = a.1.apart;
      }) t.1.sorts,
    )
