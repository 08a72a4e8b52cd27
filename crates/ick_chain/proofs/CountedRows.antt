-- Proves that the counts of rows are numbers of runs.
use Prim.Native.Nat.{zero, suc}
use Rattle.std.proofs.Common.{◌≡◌, ◌⊎◌, inl, inr, ℕ, ◌+◌, ◌<◌, Bool, true, false, List, [], ◌∷◌, ◌++◌}
use Rattle.std.proofs.Common.{Option, Some, None, length, slice_get, slice_index_or, refl, ap, sym, ◌∙◌, subst, arith}
use Rattle.std.specs.List.{Contains}
use Rattle.std.specs.Prelude.{IfSome, option_map}
use Rattle.ick_code.specs.meaning.State.{State}
use Rattle.ick_outcomes.specs.Programs.{Program}
use Rattle.ick_explorer.proofs.ListingLaws.{contains-head, contains-tail}
use Rattle.ick_numbers.specs.Values.{natural, naturals}
use Rattle.ick_numbers.specs.declared.natural.Natural.{Natural}
use Rattle.ick_outcomes.specs.Tallies.{Test as OutcomeTest}
use Rattle.ick_outcomes.proofs.Lists.{get-mapped}
use Rattle.ick_chain.specs.declared.chain.Node.{Node}
use Rattle.ick_chain.specs.declared.chain.Node.TheVariants.{Ends}
use Rattle.ick_chain.specs.declared.row.Row.{Row as Kept}
use Rattle.ick_chain.specs.Chains.{passing, passing_at, IsClosed}
use Rattle.ick_chain.specs.Counts.{AllCounted, AreCounted, AreCounts, AreGraded, AreMarks, CountsRuns, IsCounted, counts_of}
use Rattle.ick_chain.specs.Limits.{all_if}
use Rattle.ick_chain.specs.Places.{IsFull, state_or}
use Rattle.ick_chain.specs.Rows.{Row, AreRows, IsTestOf, row_of, rows_of}
use Rattle.ick_chain.specs.Tallied.{IsOfEnded, of_states}
use Rattle.ick_chain.proofs.CountFlows.{counted}
use Rattle.ick_chain.proofs.Placing.{chain_of, first_is}

none-one : (let x : Option ℕ = None in x) ≡ Some 1 → ⊥
none-one e = cc

-- a node that weighs 1 fails if all that pass weigh nothing
passing-none : (q : ℕ → Bool) (ns : List Node) (ys : List ℕ) (i : ℕ) → passing q ns ys ≡ 0 →
    slice_get ns i ≡ Some Ends → slice_get ys i ≡ Some 1 → q i ≡ false
passing-none q [] ys i h g m = let z : None ≡ Some Ends = g in cc
passing-none q (n ∷ ns) [] i h g m = absurd (none-one m)
passing-none q (n ∷ ns) (y ∷ ys) zero h g m =
    let a : n ≡ Ends = cc in
    let b : y ≡ 1 = cc in
    let c : passing_at (q 0) y n ≡ all_if (q 0) 1 =
    ap (λ z. passing_at (q 0) y z) a ∙ ap (λ z. all_if (q 0) z) b in
    by_test (q 0) (omega (arith, h, c))
  where
    by_test : (b : Bool) → all_if b 1 ≡ 0 → b ≡ false
    by_test true e = absurd (let z : ⊥ = omega (arith, e) in z)
    by_test false e = refl
passing-none q (n ∷ ns) (y ∷ ys) (suc i) h g m =
    passing-none (λ i. q (suc i)) ns ys i (omega (arith, h)) g m

test-on : (q : OutcomeTest) (r x : Row) → x.output ≡ r.output → x.end ≡ r.end → IsTestOf r.output r.end q →
    IsTestOf x.output x.end q
test-on q r x a b t =
    subst (λ o. IsTestOf o x.end q) (sym a) (subst (λ e. IsTestOf r.output e q) (sym b) t)

pub row_counted : (p : Program) (states : List State) (s : State) (nodes : List Node) (grades : List (Option ℕ))
    (counts marks : List ℕ) (cr er : List Row) → IsFull p states nodes → slice_get states 0 ≡ Some s → IsClosed nodes →
    AreGraded nodes grades → AreCounts nodes grades counts → AreMarks grades marks →
    AreRows (λ q. passing (λ i. q (state_or s states i)) nodes counts) cr →
    AreRows (λ q. passing (λ i. q (state_or s states i)) nodes marks) er →
    (r x y : Row) (n : ℕ) → Contains cr x → Contains er y → IsCounted r x y n →
    (q : OutcomeTest) → IsTestOf r.output r.end q → IsOfEnded q → CountsRuns p s q n
row_counted p states s nodes grades counts marks cr er full begins closed graded are marked cs es r x y n mx my h q t k =
    let seen = state_or s states in
    let a : passing (λ i. of_states q (seen i)) nodes counts ≡ x.weight =
    cs.each x mx q (test-on q r x h.same_counted.same_output h.same_counted.same_end t) in
    let b : passing (λ i. of_states q (seen i)) nodes marks ≡ y.weight =
    es.each y my q (test-on q r y h.same_endless.same_output h.same_endless.same_end t) in
    let c = counted p seen nodes (chain_of p states nodes s full) closed grades graded q k
    (λ i e g. passing-none (λ i. of_states q (seen i)) nodes marks i (b ∙ h.none) e (marked.each i g))
    are.graded counts are in
    subst (λ z. CountsRuns p z q n) (first_is states s s begins)
    (subst (λ z. CountsRuns p (seen 0) q z) (a ∙ h.count) c)

pub are_counted : (p : Program) (states : List State) (s : State) (nodes : List Node) (grades : List (Option ℕ))
    (counts marks : List ℕ) (rows cr er : List Row) (found : List (Option ℕ)) → IsFull p states nodes →
    slice_get states 0 ≡ Some s → IsClosed nodes → AreGraded nodes grades → AreCounts nodes grades counts →
    AreMarks grades marks → AreRows (λ q. passing (λ i. q (state_or s states i)) nodes counts) cr →
    AreRows (λ q. passing (λ i. q (state_or s states i)) nodes marks) er → AllCounted rows cr er found →
    AreCounted p s rows found
are_counted p states s nodes grades counts marks rows cr er found full begins closed graded are marked cs es all = record {
  long = all.0;
  each = λ i r n g m q t k.
      let e = all.1 i r n g m in
      row_counted p states s nodes grades counts marks cr er full begins closed graded are marked cs es r e.0 e.1 n
      e.2 e.3 e.4 q t k;
}

-- the nodes below an index have their marks
abbrev pub AreMarksBelow : List (Option ℕ) → List ℕ → ℕ → Type 0
AreMarksBelow grades marks k = (i : ℕ) → i < k → slice_get grades i ≡ Some None → slice_get marks i ≡ Some 1

get-pushed : (xs : List Natural) (m : Natural) (i : ℕ) → i < length xs →
    slice_get (naturals (xs ++ m ∷ [])) i ≡ slice_get (naturals xs) i
get-pushed [] m i lt = absurd (let z : ⊥ = omega (arith, lt) in z)
get-pushed (x ∷ xs) m zero lt = refl
get-pushed (x ∷ xs) m (suc i) lt = get-pushed xs m i (omega (arith, lt))

get-last : (xs : List Natural) (m : Natural) → slice_get (naturals (xs ++ m ∷ [])) (length xs) ≡ Some (natural m)
get-last [] m = refl
get-last (x ∷ xs) m = get-last xs m

index-got : {A : Type 0} (xs : List A) (i : ℕ) (d x : A) → slice_get xs i ≡ Some x → slice_index_or xs i d ≡ x
index-got [] i d x h = let z : None ≡ Some x = h in cc
index-got (y ∷ xs) zero d x h = let e : y ≡ x = cc in e
index-got (y ∷ xs) (suc i) d x h = index-got xs i d x h

pub marks_more : (grades : List (Option ℕ)) (marks new : List Natural) (k : ℕ) (d : Option ℕ) (m : Natural) →
    length marks ≡ k → (slice_index_or grades k d ≡ None → natural m ≡ 1) → new ≡ marks ++ m ∷ [] →
    AreMarksBelow grades (naturals marks) k → AreMarksBelow grades (naturals new) (k + 1)
marks_more grades marks new k d m long f e below i lt g =
    subst (λ z. slice_get (naturals z) i ≡ Some 1) (sym e) (by_order (below_or i k (omega (arith, lt))))
  where
    by_order : (i < k) ⊎ (i ≡ k) → slice_get (naturals (marks ++ m ∷ [])) i ≡ Some 1
    by_order (inl l) = get-pushed marks m i (omega (arith, l, long)) ∙ below i l g
    by_order (inr l) =
        let h = f (index-got grades k d None (subst (λ z. slice_get grades z ≡ Some None) l g)) in
        subst (λ z. slice_get (naturals (marks ++ m ∷ [])) z ≡ Some 1) (long ∙ sym l) (get-last marks m ∙ ap Some h)

    below_or : (i k : ℕ) → i < suc k → (i < k) ⊎ (i ≡ k)
    below_or zero zero lt = inr refl
    below_or zero (suc k) lt = inl (omega arith)
    below_or (suc i) zero lt = absurd (let z : ⊥ = omega (arith, lt) in z)
    below_or (suc i) (suc k) lt = elim (below_or i k (omega (arith, lt))) [ inl l ↦ inl (omega (arith, l)) | inr l ↦ inr (ap suc l) ]

long-pushed : {A : Type 0} (xs : List A) (x : A) → length (xs ++ x ∷ []) ≡ suc (length xs)
long-pushed [] x = refl
long-pushed (y ∷ xs) x = ap suc (long-pushed xs x)

pub marks_long : (marks new : List Natural) (m : Natural) (k : ℕ) → length marks ≡ k → new ≡ marks ++ m ∷ [] →
    length new ≡ k + 1
marks_long marks new m k h e =
    let i = long-pushed marks m in let j : suc (length marks) ≡ k + 1 = omega (arith, h) in
    ap (λ (z : List Natural). length z) e ∙ (i ∙ j)

naturals-long : (xs : List Natural) → length (naturals xs) ≡ length xs
naturals-long [] = refl
naturals-long (x ∷ xs) = ap suc (naturals-long xs)

got-short : {A : Type 0} (xs : List A) (i : ℕ) (x : A) → slice_get xs i ≡ Some x → i < length xs
got-short [] i x h = let z : None ≡ Some x = h in cc
got-short (y ∷ xs) zero x h = omega arith
got-short (y ∷ xs) (suc i) x h = let k = got-short xs i x h in omega (arith, k)

pub are_marks : (grades : List (Option ℕ)) (marks : List Natural) (k : ℕ) → k ≡ length grades → length marks ≡ k →
    AreMarksBelow grades (naturals marks) k → AreMarks grades (naturals marks)
are_marks grades marks k e long below = record {
  long = naturals-long marks ∙ (long ∙ e);
  each = λ i g. let lt = got-short grades i None g in below i (omega (arith, lt, e)) g;
}

-- each row that has a count already has it from rows of counts and of marks
abbrev pub EachCounted : List Kept → List Kept → List Kept → List (Option Natural) → Type 0
EachCounted rows counted endless counts = (i : ℕ) (r : Row) (n : ℕ) → slice_get (rows_of rows) i ≡ Some r →
    slice_get (counts_of counts) i ≡ Some (Some n) →
    (x : Row) × (y : Row) × Contains (rows_of counted) x × Contains (rows_of endless) y × IsCounted r x y n

pub none_counted : (rows counted endless : List Kept) → EachCounted rows counted endless []
none_counted rows counted endless i r n g h = let z : None ≡ Some (Some n) = h in cc

pub counts_long : (counts new : List (Option Natural)) (m : Option Natural) (k : ℕ) → length counts ≡ k →
    new ≡ counts ++ m ∷ [] → length new ≡ k + 1
counts_long counts new m k h e =
    let i = long-pushed counts m in let j : suc (length counts) ≡ k + 1 = omega (arith, h) in
    ap (λ (z : List (Option Natural)). length z) e ∙ (i ∙ j)

got-pushed : (counts : List (Option Natural)) (c : Option Natural) (i n : ℕ) →
    slice_get (counts_of (counts ++ c ∷ [])) i ≡ Some (Some n) →
    (slice_get (counts_of counts) i ≡ Some (Some n)) ⊎ ((i ≡ length counts) × (option_map natural c ≡ Some n))
got-pushed [] c zero n h = inr (refl, (let e : option_map natural c ≡ Some n = cc in e))
got-pushed [] c (suc i) n h = let z : None ≡ Some (Some n) = h in cc
got-pushed (x ∷ counts) c zero n h = inl h
got-pushed (x ∷ counts) c (suc i) n h =
    elim (got-pushed counts c i n h) [ inl k ↦ inl k | inr k ↦ inr (ap suc k.0, k.1) ]

got-contains : (rows : List Kept) (k : ℕ) (row : Kept) → k < length rows → row ≡ slice_index_or rows k row →
    Contains (rows_of rows) (row_of row)
got-contains [] k row lt e = absurd (let z : ⊥ = omega (arith, lt) in z)
got-contains (x ∷ rows) zero row lt e =
    subst (λ z. Contains (row_of x ∷ rows_of rows) z) (ap row_of (sym e)) (contains-head (row_of x) (rows_of rows))
got-contains (x ∷ rows) (suc k) row lt e =
    contains-tail (row_of x) (row_of row) (rows_of rows) (got-contains rows k row (omega (arith, lt)) e)

pub count_push : (rows counted endless : List Kept) (counts new : List (Option Natural)) (c : Option Natural)
    (row x y : Kept) (k : ℕ) → length counts ≡ k → k < length rows → k < length counted → k < length endless →
    row ≡ slice_index_or rows k row → x ≡ slice_index_or counted k x → y ≡ slice_index_or endless k y →
    IfSome c (λ n. IsCounted (row_of row) (row_of x) (row_of y) (natural n)) → new ≡ counts ++ c ∷ [] →
    EachCounted rows counted endless counts → EachCounted rows counted endless new
count_push rows counted endless counts new c row x y k long lr lx ly er ex ey h e f =
    subst (λ z. EachCounted rows counted endless z) (sym e)
    (λ i r n g j. elim (got-pushed counts c i n j) [
      | inl o ↦ f i r n g o
      | inr o ↦
          let a : slice_get (rows_of rows) k ≡ Some (row_of row) =
          get-mapped row_of rows k row lr ∙ ap (λ (z : Kept). Some (row_of z)) (sym er) in
          let b : slice_get (rows_of rows) k ≡ Some r = subst (λ z. slice_get (rows_of rows) z ≡ Some r) (o.0 ∙ long) g in
          let w : row_of row ≡ r = (let v : Some (row_of row) ≡ Some r = sym a ∙ b in cc) in (
            row_of x,
            row_of y,
            got-contains counted k x lx ex,
            got-contains endless k y ly ey,
            subst (λ (z : Row). IsCounted z (row_of x) (row_of y) n) w (by_count n c o.1 h),
          )
    ])
  where
    by_count : (n' : ℕ) (c : Option Natural) → option_map natural c ≡ Some n' →
        IfSome c (λ n. IsCounted (row_of row) (row_of x) (row_of y) (natural n)) →
        IsCounted (row_of row) (row_of x) (row_of y) n'
    by_count n' None a h = let z : None ≡ Some n' = a in cc
    by_count n' (Some m) a h =
        let b : natural m ≡ n' = (let v : Some (natural m) ≡ Some n' = a in cc) in
        subst (λ z. IsCounted (row_of row) (row_of x) (row_of y) z) b h

counts-of-long : (counts : List (Option Natural)) → length (counts_of counts) ≡ length counts
counts-of-long [] = refl
counts-of-long (x ∷ counts) = ap suc (counts-of-long counts)

rows-of-long : (rows : List Kept) → length (rows_of rows) ≡ length rows
rows-of-long [] = refl
rows-of-long (x ∷ rows) = ap suc (rows-of-long rows)

pub all_counted : (rows counted endless : List Kept) (counts : List (Option Natural)) → length counts ≡ length rows →
    EachCounted rows counted endless counts →
    AllCounted (rows_of rows) (rows_of counted) (rows_of endless) (counts_of counts)
all_counted rows counted endless counts long f =
    (counts-of-long counts ∙ (long ∙ sym (rows-of-long rows)), f)
