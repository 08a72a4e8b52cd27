-- Proves what the rows of a chain weigh.
use Prim.Native.Nat.{zero, suc}
use Rattle.std.proofs.Common.{◌≡◌, ℕ, ◌+◌, ◌<◌, Bool, true, false, List, [], ◌∷◌, Some, None}
use Rattle.std.proofs.Common.{inl, inr, length, take, slice_get, slice_index_or, refl, ap, sym, ◌∙◌, subst, arith}
use Rattle.std.specs.List.{Contains}
use Rattle.ick_code.specs.meaning.State.{State, Ending}
use Rattle.ick_code.specs.meaning.Move.{ended}
use Rattle.ick_outcomes.specs.Programs.{ask, Program}
use Rattle.ick_backtrack.specs.Asked.{Finish, finished, at_limit, asked_at_end}
use Rattle.ick_explorer.specs.Lines.{end_text}
use Rattle.ick_explorer.proofs.ListingLaws.{contains-nil, contains-head, contains-tail, contains-cases}
use Rattle.ick_numbers.specs.Values.{natural, naturals}
use Rattle.ick_numbers.specs.declared.natural.Natural.{Natural}
use Rattle.ick_outcomes.specs.Tallies.{Test as OutcomeTest}
use Rattle.ick_chain.specs.declared.chain.Node.{Node}
use Rattle.ick_chain.specs.declared.chain.Node.TheVariants.{Ends, Goes, Stuck}
use Rattle.ick_chain.specs.Chains.{passing, passing_at, negate, never, stuck_at}
use Rattle.ick_chain.specs.Limits.{Test, all_if}
use Rattle.ick_chain.specs.Places.{IsFull, Tells}
use Rattle.ick_chain.specs.Rows.{Row, AreDistinct, AreRows, IsTestOf, weight_of, any_outcome}
use Rattle.ick_chain.specs.Tallied.{by_end, of_states}
use Rattle.ick_outcomes.proofs.ProgramRuns.{end_is}

-- the row of the runs that end in a state weighs what the state weighs, for each test
pub row_weight : (p : Program) (s : State) (finish : Finish) (output end : List ℕ) (weight given : ℕ) →
    asked_at_end finish ≡ Some (ask p s) → output ≡ s.output → end ≡ end_text finish → weight ≡ given →
    (q : OutcomeTest) → all_if (q output end) weight ≡ all_if (of_states q s) given
row_weight p s (finished e) output end weight given h o t w q =
    let a : ended e ≡ ask p s = cc in
    let i : s.end ≡ Some e = end_is p s e (sym a) in
    ap (λ x. all_if (q x end) weight) o
    ∙ (ap (λ x. all_if (q s.output x) weight) t
    ∙ (ap (λ x. all_if (q s.output (end_text (finished e))) x) w
    ∙ ap (λ x. all_if (by_end q s.output x) given) (sym i)))
row_weight p s at_limit output end weight given h o t w q = let z : None ≡ Some (ask p s) = h in cc

passing-suc : (q : ℕ → Bool) (ns : List Node) (ys : List Natural) (k : ℕ) (d : Node) (y : Natural) →
    k < length ns → length ys ≡ length ns → y ≡ slice_index_or ys k y →
    passing q (take (suc k) ns) (naturals (take (suc k) ys))
    ≡ passing q (take k ns) (naturals (take k ys)) + passing_at (q k) (natural y) (slice_index_or ns k d)
passing-suc q [] ys k d y lt e i = absurd (let z : ⊥ = omega (arith, lt) in z)
passing-suc q (m ∷ ns) [] k d y lt e i = absurd (let z : ⊥ = omega (arith, e) in z)
passing-suc q (m ∷ ns) (x ∷ ys) zero d y lt e i =
    let b = ap (λ (z : Natural). passing_at (q 0) (natural z) m) i in omega (arith, b)
passing-suc q (m ∷ ns) (x ∷ ys) (suc k) d y lt e i =
    let j = passing-suc (λ i. q (suc i)) ns ys k d y (omega (arith, lt)) (omega (arith, e)) i in omega (arith, j)

-- the weight of the nodes that pass, with one more node
pub passing_more : (q : ℕ → Bool) (ns : List Node) (ys : List Natural) (k : ℕ) (d : Node) (y : Natural) (b : Bool)
    (a c : ℕ) → k < length ns → length ys ≡ length ns → y ≡ slice_index_or ys k y → q k ≡ b →
    a ≡ passing q (take k ns) (naturals (take k ys)) →
    c ≡ passing_at b (natural y) (slice_index_or ns k d) + a →
    c ≡ passing q (take (k + 1) ns) (naturals (take (k + 1) ys))
passing_more q ns ys k d y b a c lt e i g h j =
    let l = passing-suc q ns ys k d y lt e i in
    let n : k + 1 ≡ suc k = omega arith in
    let m = ap (λ z. passing_at z (natural y) (slice_index_or ns k d)) g in
    subst (λ z. c ≡ passing q (take z ns) (naturals (take z ys))) (sym n) (omega (arith, l, m, h, j))

none-passing : (q : OutcomeTest) (rs : List Row) → ((x : Row) → Contains rs x → q x.output x.end ≡ true → ⊥) →
    weight_of q rs ≡ 0
none-passing q [] f = refl
none-passing q (r ∷ rs) f =
    by_test (q r.output r.end) refl (none-passing q rs (λ x m. f x (contains-tail r x rs m)))
  where
    by_test : (b : Bool) → q r.output r.end ≡ b → weight_of q rs ≡ 0 → all_if b r.weight + weight_of q rs ≡ 0
    by_test true e ih = absurd (f r (contains-head r rs) e)
    by_test false e ih = omega (arith, ih)

-- the test for the outcome of a row is passed by this row alone
one-passing : (rs : List Row) (r : Row) → Contains rs r → AreDistinct rs → (q : OutcomeTest) →
    IsTestOf r.output r.end q → weight_of q rs ≡ r.weight
one-passing [] r m d q h = absurd (contains-nil r m)
one-passing (x ∷ rs) r m d q h = elim (contains-cases x r rs m) [
  | inl e ↦ first e
  | inr n ↦ later n (one-passing rs r n d.1 q h) (q x.output x.end) refl
]
  where
    first : x ≡ r → all_if (q x.output x.end) x.weight + weight_of q rs ≡ r.weight
    first e =
        let a : q x.output x.end ≡ true = subst (λ (z : Row). q z.output z.end ≡ true) (sym e) h.passed in
        let o : x.output ≡ r.output = ap (λ (z : Row). z.output) e in
        let t : x.end ≡ r.end = ap (λ (z : Row). z.end) e in
        let n = none-passing q rs (λ y k g. let i = h.alone y.output y.end g in
        d.0 y k (o ∙ sym i.0) (t ∙ sym i.1)) in
        let w : x.weight ≡ r.weight = ap (λ (z : Row). z.weight) e in
        let b : all_if (q x.output x.end) x.weight ≡ x.weight = ap (λ z. all_if z x.weight) a in
        omega (arith, n, w, b)

    later : Contains rs r → weight_of q rs ≡ r.weight → (b : Bool) → q x.output x.end ≡ b → all_if b x.weight + weight_of q rs ≡ r.weight
    later n ih true e = let i = h.alone x.output x.end e in absurd (d.0 r n i.0 i.1)
    later n ih false e = omega (arith, ih)

pub are_rows : (weight : Test → ℕ) (rows : List Row) → AreDistinct rows →
    ((q : OutcomeTest) → weight_of q rows ≡ weight (of_states q)) → AreRows weight rows
are_rows weight rows d h = record {
  distinct = d;
  each = λ r m q t. sym (h q) ∙ one-passing rows r m d q t;
  whole = λ q. sym (h q);
}

-- nodes that fail weigh nothing
passing-zero : (q : ℕ → Bool) (ns : List Node) (ys : List ℕ) → ((i : ℕ) → slice_get ns i ≡ Some Ends → q i ≡ false) →
    passing q ns ys ≡ 0
passing-zero q [] ys f = refl
passing-zero q (n ∷ ns) [] f = refl
passing-zero q (n ∷ ns) (y ∷ ys) f =
    let k = passing-zero (λ i. q (suc i)) ns ys (λ i h. f (suc i) h) in
    let a = at n (λ e. f 0 (ap Some e)) in
    omega (arith, k, a)
  where
    at : (m : Node) → (m ≡ Ends → q 0 ≡ false) → passing_at (q 0) y m ≡ 0
    at Ends g = ap (λ z. all_if z y) (g refl)
    at (Goes f) g = refl
    at (Stuck f) g = refl

-- rows and NEVER weigh 1 together, if all weigh so
pub rows_whole : (p : Program) (seen : ℕ → State) (ns : List Node) (ys : List ℕ) (rows : List Row) (forever parts : ℕ) →
    ((i : ℕ) → slice_get ns i ≡ Some Ends → (e : Ending) × (ask p (seen i) ≡ ended e)) →
    AreRows (λ q. passing (λ i. q (seen i)) ns ys) rows →
    ((q : Test) → passing (λ i. q (seen i)) ns ys + passing (λ i. negate (q (seen i))) ns ys + forever ≡ parts) →
    weight_of any_outcome rows + forever ≡ parts
rows_whole p seen ns ys rows forever parts ends are whole =
    let t = of_states any_outcome in
    let w = whole t in
    let a = are.whole any_outcome in
    let z = passing-zero (λ i. negate (t (seen i))) ns ys (λ i h. let x = ends i h in
    ap (λ o. negate (by_end any_outcome (seen i).output o)) (end_is p (seen i) x.0 x.1)) in
    omega (arith, w, a, z)

-- visits of stuck nodes, with one more node
never-suc : (ns : List Node) (ys : List Natural) (k : ℕ) (d : Node) (y : Natural) →
    k < length ns → length ys ≡ length ns → y ≡ slice_index_or ys k y →
    never (take (suc k) ns) (naturals (take (suc k) ys))
    ≡ never (take k ns) (naturals (take k ys)) + stuck_at (natural y) (slice_index_or ns k d)
never-suc [] ys k d y lt e i = absurd (let z : ⊥ = omega (arith, lt) in z)
never-suc (m ∷ ns) [] k d y lt e i = absurd (let z : ⊥ = omega (arith, e) in z)
never-suc (m ∷ ns) (x ∷ ys) zero d y lt e i =
    let b = ap (λ (z : Natural). stuck_at (natural z) m) i in omega (arith, b)
never-suc (m ∷ ns) (x ∷ ys) (suc k) d y lt e i =
    let j = never-suc ns ys k d y (omega (arith, lt)) (omega (arith, e)) i in omega (arith, j)

pub never_more : (ns : List Node) (ys : List Natural) (k : ℕ) (d : Node) (y : Natural) (a c : ℕ) →
    k < length ns → length ys ≡ length ns → y ≡ slice_index_or ys k y →
    a ≡ never (take k ns) (naturals (take k ys)) →
    c ≡ a + stuck_at (natural y) (slice_index_or ns k d) →
    c ≡ never (take (k + 1) ns) (naturals (take (k + 1) ys))
never_more ns ys k d y a c lt e i h j =
    let l = never-suc ns ys k d y lt e i in
    let n : k + 1 ≡ suc k = omega arith in
    subst (λ z. c ≡ never (take z ns) (naturals (take z ys))) (sym n) (omega (arith, l, h, j))

-- an ended node's state has ended
pub ends_of : (p : Program) (ss : List State) (ns : List Node) (i : ℕ) (n : Node) (s : State) → IsFull p ss ns →
    slice_get ns i ≡ Some n → slice_get ss i ≡ Some s → n ≡ Ends → (e : Ending) × (ask p s ≡ ended e)
ends_of p ss ns i n s h a b e = subst (λ z. Tells p ss s z) e (h.each i n s a b)

pub got_at : {A : Type 0} (xs : List A) (i : ℕ) (d : A) → i < length xs → slice_get xs i ≡ Some (slice_index_or xs i d)
got_at [] i d lt = absurd (let z : ⊥ = omega (arith, lt) in z)
got_at (x ∷ xs) zero d lt = refl
got_at (x ∷ xs) (suc i) d lt = got_at xs i d (omega (arith, lt))
