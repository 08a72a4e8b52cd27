-- Proves how tallies grow with rows and nodes.
use Prim.Native.Nat.{zero, suc}
use Rattle.std.proofs.Common.{◌≡◌, ℕ, ◌+◌, ◌*◌, ◌-◌, ◌^◌, ◌<◌, ◌≤◌, ◌⊎◌, inl, inr, Bool, true, false}
use Rattle.std.proofs.Common.{List, [], ◌∷◌, ◌++◌, Some, None, refl, ap, sym, ◌∙◌, subst, arith, slice_get, slice_set}
use Rattle.std.proofs.Math.Nat.{pow-succ'}
use Rattle.std.specs.List.{Contains}
use Rattle.std.proofs.lemmas.List.{append-nil}
use Rattle.ick_code.specs.meaning.State.{State}
use Rattle.ick_code.specs.meaning.Move.{choice, ended}
use Rattle.ick_outcomes.specs.Programs.{ask, advance, Program, after_steps, RunsOn}
use Rattle.ick_backtrack.specs.Asked.{finished, at_limit, IsGoing}
use Rattle.ick_explorer.specs.Runs.{ends}
use Rattle.ick_explorer.specs.Order.{IsBelow}
use Rattle.ick_outcomes.specs.Tallies.{Test, Tally, lesser, none, join, after, one, tally, stop_text}
use Rattle.ick_outcomes.specs.Summaries.{Row}
use Rattle.ick_outcomes.specs.Accounts.{Pending, ahead, joined, counted_if, counted}
use Rattle.ick_outcomes.specs.Accounts.{AreApart, AreDistinct, Admits, Counts, CanMerge, chosen}
use Rattle.ick_outcomes.proofs.Algebra.{join-none, none-join, join-swap, join-assoc, after-merge, after-choice}
use Rattle.ick_outcomes.proofs.Algebra.{after-pass, after-none}
use Rattle.ick_outcomes.proofs.Algebra.{same_tally, lesser-swap}
use Rattle.ick_outcomes.proofs.TallyRuns.{tally-ended, tally-limit, tally-plain, tally-chosen}
use Rattle.ick_outcomes.proofs.PlaceByPlace.{lesser-before}
use Rattle.ick_explorer.proofs.ListingLaws.{contains-nil, contains-head, contains-tail, contains-cases}

-- an element is appended
joined-push : {A : Type 0} (f : A → Tally) (xs : List A) (x : A) → joined f (xs ++ x ∷ []) ≡ join (f x) (joined f xs)
joined-push f [] x = refl
joined-push f (y ∷ xs) x =
    ap (join (f y)) (joined-push f xs x)
    ∙ (sym (join-assoc (f y) (f x) (joined f xs))
    ∙ (ap (λ t. join t (joined f xs)) (join-swap (f y) (f x)) ∙ join-assoc (f x) (f y) (joined f xs)))

pub joined-append : {A : Type 0} (f : A → Tally) (xs ys : List A) →
    joined f (xs ++ ys) ≡ join (joined f xs) (joined f ys)
joined-append f [] ys = sym (none-join (joined f ys))
joined-append f (x ∷ xs) ys = ap (join (f x)) (joined-append f xs ys) ∙ sym (join-assoc (f x) (joined f xs) (joined f ys))

-- an element is replaced by one that has another tally too
pub joined-set : {A : Type 0} (f : A → Tally) (xs : List A) (i : ℕ) (x y : A) (more : Tally) → slice_get xs i ≡ Some x →
    join more (f x) ≡ f y → joined f (slice_set xs i y) ≡ join more (joined f xs)
joined-set f [] i x y more h e = let z : None ≡ Some x = h in cc
joined-set f (m ∷ xs) zero x y more h e =
    let z : m ≡ x = cc in
    ap (λ t. join t (joined f xs)) (sym e)
    ∙ (join-assoc more (f x) (joined f xs) ∙ ap (λ w. join more (join (f w) (joined f xs))) (sym z))
joined-set f (m ∷ xs) (suc i) x y more h e =
    ap (join (f m)) (joined-set f xs i x y more h e)
    ∙ (sym (join-assoc (f m) more (joined f xs))
    ∙ (ap (λ t. join t (joined f xs)) (join-swap (f m) more) ∙ join-assoc more (f m) (joined f xs)))

pub admits-push : (ns : List Pending) (n : Pending) → Admits ns n (ns ++ n ∷ [])
admits-push ns n = λ q. joined-push (ahead q) ns n

-- whose choices come before those of the new node
pub admits-below : (ns : List Pending) (i : ℕ) (x n y : Pending) → slice_get ns i ≡ Some x →
    x.at ≡ n.at → x.left ≡ n.left → IsBelow x.choices n.choices →
    y ≡ record x { count = x.count + n.count; weight = x.weight + n.weight } → Admits ns n (slice_set ns i y)
admits-below ns i x n y h same left below e = λ q.
    let t = tally x.at.program x.at.state x.left q in
    let u : tally n.at.program n.at.state n.left q ≡ t =
    ap (λ z. tally z.program z.state n.left q) (sym same)
    ∙ ap (λ z. tally x.at.program x.at.state z q) (sym left) in
    joined-set (ahead q) ns i x y (ahead q n) h
    (ap (λ z. join (after n.count n.weight n.choices z) (after x.count x.weight x.choices t)) u
    ∙ (join-swap (after n.count n.weight n.choices t) (after x.count x.weight x.choices t)
    ∙ (after-merge x.count n.count x.weight n.weight x.choices n.choices t below
    ∙ ap (λ z. ahead q z) (sym e))))

-- or after them
pub admits-above : (ns : List Pending) (i : ℕ) (x n y : Pending) → slice_get ns i ≡ Some x →
    x.at ≡ n.at → x.left ≡ n.left → IsBelow n.choices x.choices →
    y ≡ record x { count = n.count + x.count; weight = n.weight + x.weight; choices = n.choices } →
    Admits ns n (slice_set ns i y)
admits-above ns i x n y h same left below e = λ q.
    let t = tally x.at.program x.at.state x.left q in
    let u : tally n.at.program n.at.state n.left q ≡ t =
    ap (λ z. tally z.program z.state n.left q) (sym same)
    ∙ ap (λ z. tally x.at.program x.at.state z q) (sym left) in
    joined-set (ahead q) ns i x y (ahead q n) h
    (ap (λ z. join (after n.count n.weight n.choices z) (after x.count x.weight x.choices t)) u
    ∙ (after-merge n.count x.count n.weight x.weight n.choices x.choices t below
    ∙ ap (λ z. ahead q z) (sym e)))

pub contains-push : {A : Type 0} (xs : List A) (x y : A) → Contains (xs ++ x ∷ []) y → Contains xs y ⊎ (x ≡ y)
contains-push [] x y m = elim (contains-cases x y [] m) [ inl e ↦ inr e | inr n ↦ absurd (contains-nil y n) ]
contains-push (z ∷ xs) x y m = elim (contains-cases z y (xs ++ x ∷ []) m) [
  | inl e ↦ inl (subst (λ w. Contains (z ∷ xs) w) e (contains-head z xs))
  | inr n ↦ elim (contains-push xs x y n) [ inl k ↦ inl (contains-tail z y xs k) | inr e ↦ inr e ]
]

distinct-push : (rs : List Row) (r : Row) → ((x : Row) → Contains rs x → AreApart x r) → AreDistinct rs →
    AreDistinct (rs ++ r ∷ [])
distinct-push [] r f d = (λ x m. absurd (contains-nil x m), tt)
distinct-push (y ∷ rs) r f d = (
  λ x m. elim (contains-push rs r x m) [
    | inl n ↦ d.0 x n
    | inr e ↦ subst (λ z. AreApart y z) e (f y (contains-head y rs))
  ],
  distinct-push rs r (λ x m. f x (contains-tail y x rs m)) d.1,
)

-- an outcome that no row has becomes a row
pub counts-push : (rs : List Row) (r : Row) → ((x : Row) → Contains rs x → AreApart x r) → Counts rs r (rs ++ r ∷ [])
counts-push rs r f = record { added = λ q. joined-push (counted q) rs r; apart = distinct-push rs r f }

counted-merge : (q : Test) (x r y : Row) → x.output ≡ r.output → x.end ≡ r.end →
    y ≡ record x { count = x.count + r.count; weight = x.weight + r.weight; first = lesser x.first r.first } →
    join (counted q r) (counted q x) ≡ counted q y
counted-merge q x r y o e h =
    ap (λ z. join (counted_if (q z r.end) r.count r.weight r.first) (counted q x)) (sym o)
    ∙ (ap (λ z. join (counted_if (q x.output z) r.count r.weight r.first) (counted q x)) (sym e)
    ∙ (by_test (q x.output x.end) ∙ ap (λ z. counted q z) (sym h)))
  where
    by_test : (b : Bool) → join (counted_if b r.count r.weight r.first) (counted_if b x.count x.weight x.first)
        ≡ counted_if b (x.count + r.count) (x.weight + r.weight) (lesser x.first r.first)
    by_test true =
        let z : r.count + x.count ≡ x.count + r.count = omega arith in
        let w : r.weight + x.weight ≡ x.weight + r.weight = omega arith in
        same_tally z w (ap (λ c. Some c) (lesser-swap r.first x.first))
    by_test false = join-none none

contains-set : (rs : List Row) (i : ℕ) (x y z : Row) → slice_get rs i ≡ Some x → Contains (slice_set rs i y) z →
    Contains rs z ⊎ ((z ≡ y) × Contains rs x)
contains-set [] i x y z h m = let w : None ≡ Some x = h in cc
contains-set (r ∷ rs) zero x y z h m = elim (contains-cases y z rs m) [
  | inl e ↦ let w : r ≡ x = cc in inr (sym e, subst (λ v. Contains (r ∷ rs) v) w (contains-head r rs))
  | inr n ↦ inl (contains-tail r z rs n)
]
contains-set (r ∷ rs) (suc i) x y z h m = elim (contains-cases r z (slice_set rs i y) m) [
  | inl e ↦ inl (subst (λ v. Contains (r ∷ rs) v) e (contains-head r rs))
  | inr n ↦ elim (contains-set rs i x y z h n) [
    | inl k ↦ inl (contains-tail r z rs k)
    | inr k ↦ inr (k.0, contains-tail r x rs k.1)
  ]
]

distinct-set : (rs : List Row) (i : ℕ) (x y : Row) → slice_get rs i ≡ Some x → x.output ≡ y.output → x.end ≡ y.end →
    AreDistinct rs → AreDistinct (slice_set rs i y)
distinct-set [] i x y h o e d = let w : None ≡ Some x = h in cc
distinct-set (r ∷ rs) zero x y h o e d =
    let w : r ≡ x = cc in
    (λ z m. λ a b. d.0 z m (ap (λ v. v.output) w ∙ (o ∙ a)) (ap (λ v. v.end) w ∙ (e ∙ b)), d.1)
distinct-set (r ∷ rs) (suc i) x y h o e d = (
  λ z m. elim (contains-set rs i x y z h m) [
    | inl k ↦ d.0 z k
    | inr k ↦ λ a b. d.0 x k.1 (a ∙ (ap (λ v. v.output) k.0 ∙ sym o)) (b ∙ (ap (λ v. v.end) k.0 ∙ sym e))
  ],
  distinct-set rs i x y h o e d.1,
)

-- an outcome that a row has is added to it
pub counts-set : (rs : List Row) (i : ℕ) (x r y : Row) → slice_get rs i ≡ Some x → x.output ≡ r.output →
    x.end ≡ r.end →
    y ≡ record x { count = x.count + r.count; weight = x.weight + r.weight; first = lesser x.first r.first } →
    Counts rs r (slice_set rs i y)
counts-set rs i x r y h o e f = record {
  added = λ q. joined-set (counted q) rs i x y (counted q r) h (counted-merge q x r y o e f);
  apart = distinct-set rs i x y h (ap (λ v. v.output) (sym f)) (ap (λ v. v.end) (sym f));
}

-- the same runs go on after steps without a choice
pub ahead-steps : (p : Program) (s u : State) (k l a v : ℕ) (w : List Bool) (q : Test) → RunsOn p s k u →
    after a v w (tally p s (k + l) q) ≡ after a (v * 100 ^ k) w (tally p u l q)
ahead-steps p s u k l a v w q h =
    up_to k (omega arith) ∙ ap (λ x. after a (v * 100 ^ k) w (tally p x l q)) (sym h.leads)
  where
    up_to : (i : ℕ) → i ≤ k →
        after a v w (tally p s (i + l) q) ≡ after a (v * 100 ^ i) w (tally p (after_steps p s i) l q)
    up_to i le = down i l le
      where
        down : (i m : ℕ) → i ≤ k →
            after a v w (tally p s (i + m) q) ≡ after a (v * 100 ^ i) w (tally p (after_steps p s i) m q)
        down zero m le =
            let e : 0 + m ≡ m = omega arith in
            let f : v ≡ v * 1 = omega arith in
            ap (λ x. after a v w (tally p s x q)) e ∙ ap (λ x. after a x w (tally p s m q)) f
        down (suc i) m le =
            let e : suc i + m ≡ i + suc m = omega arith in
            let z : v * 100 ^ i * 100 ≡ v * (100 * 100 ^ i) = grind arith in
            let f : v * 100 ^ i * 100 ≡ v * 100 ^ suc i = z ∙ ap (λ x. v * x) (sym (pow-succ' 100 i)) in
            let t = tally p (after_steps p s (suc i)) m q in
            ap (λ x. after a v w (tally p s x q)) e ∙ (down i (suc m) (omega (arith, le))
            ∙ (ap (after a (v * 100 ^ i) w) (tally-plain p (after_steps p s i) m q (h.on i (omega (arith, le))))
            ∙ (after-pass a (v * 100 ^ i) w t ∙ ap (λ x. after a x w t) f)))

-- one run, behind k runs with the first choices w
after-one : (b : Bool) (k v l : ℕ) (w : List Bool) → after k v w (one b l) ≡ counted_if b k (v * 100 ^ l) w
after-one true k v l w =
    let e : k * 1 ≡ k = omega arith in same_tally e refl (ap (λ c. Some c) (append-nil w))
after-one false k v l w = after-none k v w

-- the next step of a node: if its run has ended, it becomes a row
pub ahead-ended : (q : Test) (n : Pending) (e : _) → ask n.at.program n.at.state ≡ ended e →
    ahead q n ≡ counted q (record {
      output = n.at.state.output;
      end = stop_text (ends (finished e));
      count = n.count;
      weight = n.weight * 100 ^ n.left;
      first = n.choices;
    })
ahead-ended q n e h =
    ap (after n.count n.weight n.choices) (tally-ended n.at.program n.at.state n.left q e h)
    ∙ after-one (q n.at.state.output (stop_text (ends (finished e)))) n.count n.weight n.left n.choices

pub ahead-limit : (q : Test) (n : Pending) → IsGoing (ask n.at.program n.at.state) → n.left ≡ 0 →
    ahead q n ≡ counted q (record {
      output = n.at.state.output;
      end = stop_text (ends at_limit);
      count = n.count;
      weight = n.weight * 100 ^ n.left;
      first = n.choices;
    })
ahead-limit q n g e =
    let b = q n.at.state.output (stop_text (ends at_limit)) in
    ap (λ l. after n.count n.weight n.choices (tally n.at.program n.at.state l q)) e
    ∙ (ap (after n.count n.weight n.choices) (tally-limit n.at.program n.at.state q g)
    ∙ (after-one b n.count n.weight 0 n.choices
    ∙ ap (λ l. counted_if b n.count (n.weight * 100 ^ l) n.choices) (sym e)))

-- if it asks for a choice, two nodes replace it
pub ahead-choice : (q : Test) (n : Pending) (k : ℕ) → ask n.at.program n.at.state ≡ choice k →
    0 < n.left → ahead q n ≡ join (ahead q (chosen k n false)) (ahead q (chosen k n true))
ahead-choice q n k h lt =
    let l = n.left - 1 in
    let e : n.left ≡ suc l = omega (arith, lt) in
    ap (λ l. after n.count n.weight n.choices (tally n.at.program n.at.state l q)) e
    ∙ (ap (after n.count n.weight n.choices) (tally-chosen n.at.program n.at.state l k q h)
    ∙ after-choice n.count n.weight n.choices k
    (tally n.at.program (advance n.at.program n.at.state false) l q)
    (tally n.at.program (advance n.at.program n.at.state true) l q))

-- and if nothing is asked, the node after the step replaces it
pub ahead-runs : (q : Test) (n : Pending) (k : ℕ) (u : State) →
    RunsOn n.at.program n.at.state k u → k ≤ n.left →
    ahead q n ≡ ahead q (record {
      at = record { program = n.at.program; state = u };
      left = n.left - k;
      count = n.count;
      weight = n.weight * 100 ^ k;
      choices = n.choices;
    })
ahead-runs q n k u h le =
    let l = n.left - k in
    let e : n.left ≡ k + l = omega (arith, le) in
    ap (λ x. after n.count n.weight n.choices (tally n.at.program n.at.state x q)) e
    ∙ ahead-steps n.at.program n.at.state u k l n.count n.weight n.choices q h

-- b moves to the front
pub join-front : (a b c : Tally) → join a (join b c) ≡ join b (join a c)
join-front a b c = sym (join-assoc a b c) ∙ (ap (λ t. join t c) (join-swap a b) ∙ join-assoc b a c)

-- a node is merged into another one
pub admits-merge : (ns : List Pending) (i : ℕ) (x n y : Pending) → slice_get ns i ≡ Some x → CanMerge x n →
    y ≡ record x {
      count = x.count + n.count;
      weight = x.weight + n.weight;
      choices = lesser x.choices n.choices;
    } → Admits ns n (slice_set ns i y)
admits-merge ns i x n y h m e = elim m.differ [
  | inl below ↦ admits-below ns i x n y h m.same_at m.same_left below
      (e ∙ ap (λ c. record x { count = x.count + n.count; weight = x.weight + n.weight; choices = c })
      (lesser-before x.choices n.choices below))
  | inr below ↦
      let z : x.count + n.count ≡ n.count + x.count = omega arith in
      let w : x.weight + n.weight ≡ n.weight + x.weight = omega arith in
      admits-above ns i x n y h m.same_at m.same_left below
      (e ∙ (ap (λ c. record x { count = x.count + n.count; weight = x.weight + n.weight; choices = c })
      (lesser-swap x.choices n.choices ∙ lesser-before n.choices x.choices below)
      ∙ (ap (λ k. record x { count = k; weight = x.weight + n.weight; choices = n.choices }) z
      ∙ ap (λ k. record x { count = n.count + x.count; weight = k; choices = n.choices }) w)))
]
