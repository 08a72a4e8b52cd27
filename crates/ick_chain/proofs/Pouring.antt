-- Proves how sums over the nodes grow.
use Prim.Native.Nat.{zero, suc}
use Rattle.std.proofs.Common.{◌≡◌, ◌⊎◌, inl, inr, ℕ, ◌+◌, ◌*◌, ◌<◌, ◌≤◌, List, [], ◌∷◌, ◌++◌, Some, None, take}
use Rattle.std.proofs.Common.{length, slice_get, slice_set, slice_index_or, refl, ap, sym, ◌∙◌, subst, arith}
use Rattle.ick_numbers.specs.Values.{natural, naturals}
use Rattle.ick_numbers.specs.declared.natural.Natural.{Natural}
use Rattle.ick_chain.specs.declared.chain.Fork.{Fork}
use Rattle.ick_chain.specs.declared.chain.Node.{Node}
use Rattle.ick_chain.specs.declared.chain.Node.TheVariants.{Stuck}
use Rattle.ick_chain.specs.Chains.{dot, out_of, poured, IsClosed, StaysStuck}

-- an element is replaced by a greater one
pub dot_at : (u : ℕ → ℕ) (xs : List Natural) (i : ℕ) (x y : Natural) (more : ℕ) → i < length xs →
    x ≡ slice_index_or xs i x → natural y ≡ natural x + more →
    dot u (naturals (slice_set xs i y)) ≡ dot u (naturals xs) + more * u i
dot_at u [] i x y more lt h e = absurd (let z : ⊥ = omega (arith, lt) in z)
dot_at u (z ∷ xs) zero x y more lt h e =
    let w : natural x ≡ natural z = ap natural h in
    let a = u 0 in
    let b = natural z in
    let d : (b + more) * a ≡ b * a + more * a = grind arith in
    let e' : natural y * a ≡ (b + more) * a = ap (λ n. n * a) (e ∙ ap (λ n. n + more) w) in
    omega (arith, d, e')
dot_at u (z ∷ xs) (suc i) x y more lt h e =
    let k = dot_at (λ i. u (suc i)) xs i x y more (omega (arith, lt)) h e in omega (arith, k)

-- an element is appended
pub dot_push : (u : ℕ → ℕ) (xs : List Natural) (x : Natural) →
    dot u (naturals (xs ++ x ∷ [])) ≡ dot u (naturals xs) + natural x * u (length xs)
dot_push u [] x = omega arith
dot_push u (z ∷ xs) x = let k = dot_push (λ i. u (suc i)) xs x in omega (arith, k)

pub dot_zero : (u : ℕ → ℕ) (xs : List Natural) (x : Natural) → natural x ≡ 0 → dot u (naturals xs) ≡ 0 →
    dot u (naturals (xs ++ x ∷ [])) ≡ 0
dot_zero u xs x h e =
    let k = dot_push u xs x in
    let m = ap (λ n. n * u (length xs)) h in
    let w = u (length xs) in
    let z : 0 * w ≡ 0 = grind arith in
    omega (arith, k, m, z, e)

-- each element is a hundred times the other list's
pub dot_hundred : (u : ℕ → ℕ) (xs ys : List Natural) → length xs ≡ length ys → ((i : ℕ) (d : Natural) → i < length xs →
    natural (slice_index_or xs i d) ≡ 100 * natural (slice_index_or ys i d)) →
    dot u (naturals xs) ≡ 100 * dot u (naturals ys)
dot_hundred u [] [] e h = refl
dot_hundred u [] (y ∷ ys) e h = absurd (let z : ⊥ = omega (arith, e) in z)
dot_hundred u (x ∷ xs) [] e h = absurd (let z : ⊥ = omega (arith, e) in z)
dot_hundred u (x ∷ xs) (y ∷ ys) e h =
    let k = dot_hundred (λ i. u (suc i)) xs ys (omega (arith, e)) (λ i d lt. h (suc i) d (omega (arith, lt))) in
    let a = u 0 in
    let b = natural y in
    let m = ap (λ n. n * a) (h 0 x (omega arith)) in
    let d : 100 * b * a ≡ 100 * (b * a) = grind arith in
    omega (arith, k, m, d)

-- what flows on from one more node
poured_suc : (u : ℕ → ℕ) (ns : List Node) (ys : List Natural) (k : ℕ) (d : Node) (y : Natural) →
    k < length ns → length ys ≡ length ns → y ≡ slice_index_or ys k y →
    poured u (take (suc k) ns) (naturals (take (suc k) ys))
    ≡ poured u (take k ns) (naturals (take k ys)) + natural y * out_of u (slice_index_or ns k d)
poured_suc u [] ys k d y lt e i = absurd (let z : ⊥ = omega (arith, lt) in z)
poured_suc u (m ∷ ns) [] k d y lt e i = absurd (let z : ⊥ = omega (arith, e) in z)
poured_suc u (m ∷ ns) (x ∷ ys) zero d y lt e i =
    let b = ap (λ z. natural z * out_of u m) i in
    omega (arith, b)
poured_suc u (m ∷ ns) (x ∷ ys) (suc k) d y lt e i =
    let j = poured_suc u ns ys k d y (omega (arith, lt)) (omega (arith, e)) i in omega (arith, j)

pub poured_more : (u : ℕ → ℕ) (ns : List Node) (ys : List Natural) (k : ℕ) (d : Node) (y : Natural) (a b c : ℕ) →
    k < length ns → length ys ≡ length ns → y ≡ slice_index_or ys k y →
    b ≡ a + poured u (take k ns) (naturals (take k ys)) →
    c ≡ b + natural y * out_of u (slice_index_or ns k d) →
    c ≡ a + poured u (take (k + 1) ns) (naturals (take (k + 1) ys))
poured_more u ns ys k d y a b c lt e i h g =
    let j = poured_suc u ns ys k d y lt e i in
    let n : k + 1 ≡ suc k = omega arith in
    subst (λ z. c ≡ a + poured u (take z ns) (naturals (take z ys))) (sym n) (omega (arith, j, h, g))

pub got_below : {A : Type 0} (xs : List A) (i : ℕ) (x : A) → slice_get xs i ≡ Some x → i < length xs
got_below [] i x h = let z : None ≡ Some x = h in cc
got_below (y ∷ xs) zero x h = omega arith
got_below (y ∷ xs) (suc i) x h = let k = got_below xs i x h in omega (arith, k)

pub got_item : {A : Type 0} (xs : List A) (i : ℕ) (x y : A) → slice_get xs i ≡ Some x → y ≡ slice_index_or xs i y →
    y ≡ x
got_item [] i x y h e = let z : None ≡ Some x = h in cc
got_item (z ∷ xs) zero x y h e = let w : z ≡ x = cc in e ∙ w
got_item (z ∷ xs) (suc i) x y h e = got_item xs i x y h e

-- the nodes below an index stay stuck
abbrev pub IsClosedBelow : List Node → ℕ → Type 0
IsClosedBelow nodes k = (i : ℕ) (f : Fork) → i < k → slice_get nodes i ≡ Some (Stuck f) → StaysStuck nodes f

pub closed_more : (nodes : List Node) (k : ℕ) (n : Node) → IsClosedBelow nodes k → n ≡ slice_index_or nodes k n →
    ((f : Fork) → n ≡ Stuck f → StaysStuck nodes f) → IsClosedBelow nodes (k + 1)
closed_more nodes k n h e g i f lt m = by_order (below_or i k (omega (arith, lt)))
  where
    by_order : (i < k) ⊎ (i ≡ k) → StaysStuck nodes f
    by_order (inl l) = h i f l m
    by_order (inr l) = g f (got_item nodes k (Stuck f) n (subst (λ z. slice_get nodes z ≡ Some (Stuck f)) l m) e)

    below_or : (i k : ℕ) → i < suc k → (i < k) ⊎ (i ≡ k)
    below_or zero zero lt = inr refl
    below_or zero (suc k) lt = inl (omega arith)
    below_or (suc i) zero lt = absurd (let z : ⊥ = omega (arith, lt) in z)
    below_or (suc i) (suc k) lt = elim (below_or i k (omega (arith, lt))) [ inl l ↦ inl (omega (arith, l)) | inr l ↦ inr (ap suc l) ]

pub closed_all : (nodes : List Node) (k : ℕ) → IsClosedBelow nodes k → length nodes ≤ k → IsClosed nodes
closed_all nodes k h le i f m = h i f (let b = got_below nodes i (Stuck f) m in omega (arith, b, le)) m
