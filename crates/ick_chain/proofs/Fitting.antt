-- Proves that means that fit the nodes of a chain are exact.
use Prim.Native.Nat.{zero, suc}
use Rattle.std.proofs.Common.{◌≡◌, ◌⊎◌, inl, inr, ℕ, ◌+◌, ◌*◌, ◌<◌, ◌≤◌, List, [], ◌∷◌, Some, None, length, slice_get}
use Rattle.std.proofs.Common.{slice_index_or, refl, ap, sym, subst, arith}
use Rattle.ick_code.specs.meaning.State.{State}
use Rattle.ick_outcomes.specs.Programs.{Program}
use Rattle.ick_numbers.specs.Values.{natural}
use Rattle.ick_numbers.specs.declared.natural.Natural.{Natural}
use Rattle.ick_chain.specs.declared.chain.Fork.{Fork}
use Rattle.ick_chain.specs.declared.chain.Node.{Node}
use Rattle.ick_chain.specs.declared.chain.Node.TheVariants.{Ends, Goes, Stuck}
use Rattle.ick_chain.specs.Means.{IsMean, IsFitting, FitAll, AreExactMeans, value_at}
use Rattle.ick_chain.proofs.MeanLaws.{mean_pinned}

pub value_is : (xs : List Natural) (i : ℕ) (x : Natural) → i < length xs → x ≡ slice_index_or xs i x →
    value_at xs i ≡ natural x
value_is [] i x lt h = absurd (let z : ⊥ = omega (arith, lt) in z)
value_is (y ∷ xs) zero x lt h = sym (ap natural h)
value_is (y ∷ xs) (suc i) x lt h = value_is xs i x (omega (arith, lt)) h

-- what bounds the means of all forks
bound-of : (ℕ → ℕ) → ℕ → Node → ℕ
bound-of e d Ends = 0
bound-of e d (Goes f) = e f.zero.to + f.zero.steps * d + (e f.one.to + f.one.steps * d)
bound-of e d (Stuck f) = 0

bounds : (ℕ → ℕ) → ℕ → List Node → ℕ
bounds e d [] = 0
bounds e d (n ∷ ns) = bound-of e d n + bounds e d ns

in-bounds : (e : ℕ → ℕ) (d : ℕ) (ns : List Node) (i : ℕ) (n : Node) → slice_get ns i ≡ Some n →
    bound-of e d n ≤ bounds e d ns
unfolding bounds
in-bounds e d [] i n h = let z : None ≡ Some n = h in cc
in-bounds e d (m ∷ ns) zero n h =
    let w : m ≡ n = cc in subst (λ z. bound-of e d z ≤ bound-of e d m + bounds e d ns) w (omega arith)
in-bounds e d (m ∷ ns) (suc i) n h = let k = in-bounds e d ns i n h in omega (arith, k)

fork-bound : (e : ℕ → ℕ) (d : ℕ) (ns : List Node) (i : ℕ) (f : Fork) → slice_get ns i ≡ Some (Goes f) →
    e f.zero.to + f.zero.steps * d + (e f.one.to + f.one.steps * d) ≤ bounds e d ns
unfolding bound-of
fork-bound e d ns i f h = in-bounds e d ns i (Goes f) h

-- the sum of the means
total : List Natural → ℕ
total [] = 0
total (x ∷ xs) = natural x + total xs

in-total : (xs : List Natural) (i : ℕ) → value_at xs i ≤ total xs
unfolding total
in-total [] i = omega arith
in-total (x ∷ xs) zero = omega arith
in-total (x ∷ xs) (suc i) = let k = in-total xs i in omega (arith, k)

got : (ns : List Node) (i : ℕ) → i < length ns → (n : Node) × (slice_get ns i ≡ Some n)
got [] i lt = absurd (let z : ⊥ = omega (arith, lt) in z)
got (x ∷ ns) zero lt = (x, refl)
got (x ∷ ns) (suc i) lt = got ns i (omega (arith, lt))

mean-of : (d : ℕ) (means : List Natural) (x : ℕ) (n : Node) → IsFitting d means x n → IsMean d (value_at means) x n
mean-of d means x Ends h = h
mean-of d means x (Goes f) h = h.1
mean-of d means x (Stuck f) h = h

pub exact_means : (p : Program) (seen : ℕ → State) (nodes : List Node) → AreExactMeans p seen nodes
exact_means p seen nodes h d means m =
    let e = value_at means in
    let most = bounds e d nodes + total means in (
      most,
      λ node at l g. mean_pinned p seen nodes h d most e
          (λ i n k. mean-of d means (e i) n (m.each i n k))
          (λ i f k.
          let inside = m.each i (Goes f) k in
          let b = fork-bound e d nodes i f k in
          let zero_in = inside.0.zero in
          let one_in = inside.0.one in
          let long = m.long in
          record {
            zero = got nodes f.zero.to (omega (arith, zero_in, long));
            one = got nodes f.one.to (omega (arith, one_in, long));
            least_zero = omega (arith, b);
            least_one = omega (arith, b);
          })
          node at l g (let t = in-total means at in omega (arith, t)),
    )

-- a further node fits
abbrev pub FitsBelow : List Node → ℕ → List Natural → ℕ → Type 0
FitsBelow nodes d means k = (i : ℕ) (n : Node) → i < k → slice_get nodes i ≡ Some n → IsFitting d means (value_at means i) n

item-is : (ns : List Node) (i : ℕ) (d n : Node) → slice_get ns i ≡ Some n → slice_index_or ns i d ≡ n
item-is [] i d n h = let z : None ≡ Some n = h in cc
item-is (x ∷ ns) zero d n h = let e : x ≡ n = cc in e
item-is (x ∷ ns) (suc i) d n h = item-is ns i d n h

pub fits_more : (nodes : List Node) (d : ℕ) (means : List Natural) (k : ℕ) (e : Node) (x : ℕ) →
    FitsBelow nodes d means k → value_at means k ≡ x → IsFitting d means x (slice_index_or nodes k e) →
    FitsBelow nodes d means (k + 1)
fits_more nodes d means k e x h v f i n lt g = by_order (below_or i k (omega (arith, lt)))
  where
    by_order : (i < k) ⊎ (i ≡ k) → IsFitting d means (value_at means i) n
    by_order (inl l) = h i n l g
    by_order (inr l) =
        subst (λ z. IsFitting d means (value_at means z) n) (sym l)
        (subst (λ z. IsFitting d means z n) (sym v)
        (subst (λ z. IsFitting d means x z) (item-is nodes k e n (subst (λ z. slice_get nodes z ≡ Some n) l g)) f))

    below_or : (i k : ℕ) → i < suc k → (i < k) ⊎ (i ≡ k)
    below_or zero zero lt = inr refl
    below_or zero (suc k) lt = inl (omega arith)
    below_or (suc i) zero lt = absurd (let z : ⊥ = omega (arith, lt) in z)
    below_or (suc i) (suc k) lt =
        elim (below_or i k (omega (arith, lt))) [ inl l ↦ inl (omega (arith, l)) | inr l ↦ inr (ap suc l) ]

got-below : (ns : List Node) (i : ℕ) (n : Node) → slice_get ns i ≡ Some n → i < length ns
got-below [] i n h = let z : None ≡ Some n = h in cc
got-below (x ∷ ns) zero n h = omega arith
got-below (x ∷ ns) (suc i) n h = let k = got-below ns i n h in omega (arith, k)

pub fits_all : (nodes : List Node) (d : ℕ) (means : List Natural) (k : ℕ) → FitsBelow nodes d means k →
    length nodes ≤ k → length means ≡ length nodes → FitAll nodes d means
fits_all nodes d means k h le e = record {
  long = e;
  each = λ i n g. h i n (let b = got-below nodes i n g in omega (arith, b, le)) g;
}
