-- Proves how the numbers of ways to nodes grow, and that equal ones weigh the same.
use Prim.Native.Nat.{zero, suc}
use Rattle.std.proofs.Common.{◌≡◌, ◌⊎◌, inl, inr, ℕ, ◌+◌, ◌*◌, ◌<◌, ◌≤◌, List, [], ◌∷◌, Option, Some, None, take}
use Rattle.std.proofs.Common.{length, slice_get, slice_index_or, refl, ap, sym, ◌∙◌, subst, arith}
use Rattle.ick_numbers.specs.Values.{natural, naturals}
use Rattle.ick_numbers.specs.declared.natural.Natural.{Natural}
use Rattle.ick_chain.specs.declared.chain.Fork.{Fork}
use Rattle.ick_chain.specs.declared.chain.Node.{Node}
use Rattle.ick_chain.specs.declared.chain.Node.TheVariants.{Goes}
use Rattle.ick_chain.specs.Chains.{dot}
use Rattle.ick_chain.specs.Counts.{along, along_of, handed, AreGraded, IsGraded}
use Rattle.ick_chain.proofs.Pouring.{got_below, got_item}

handed-suc : (u : ℕ → ℕ) (ns : List Node) (ys : List Natural) (k : ℕ) (d : Node) (y : Natural) →
    k < length ns → length ys ≡ length ns → y ≡ slice_index_or ys k y →
    handed u (take (suc k) ns) (naturals (take (suc k) ys))
    ≡ handed u (take k ns) (naturals (take k ys)) + natural y * along_of u (slice_index_or ns k d)
handed-suc u [] ys k d y lt e i = absurd (let z : ⊥ = omega (arith, lt) in z)
handed-suc u (m ∷ ns) [] k d y lt e i = absurd (let z : ⊥ = omega (arith, e) in z)
handed-suc u (m ∷ ns) (x ∷ ys) zero d y lt e i =
    let b = ap (λ (z : Natural). natural z * along_of u m) i in omega (arith, b)
handed-suc u (m ∷ ns) (x ∷ ys) (suc k) d y lt e i =
    let j = handed-suc u ns ys k d y (omega (arith, lt)) (omega (arith, e)) i in omega (arith, j)

pub handed_more : (u : ℕ → ℕ) (ns : List Node) (ys : List Natural) (k : ℕ) (d : Node) (y : Natural) (a b c : ℕ) →
    k < length ns → length ys ≡ length ns → y ≡ slice_index_or ys k y →
    b ≡ a + handed u (take k ns) (naturals (take k ys)) →
    c ≡ b + natural y * along_of u (slice_index_or ns k d) →
    c ≡ a + handed u (take (k + 1) ns) (naturals (take (k + 1) ys))
handed_more u ns ys k d y a b c lt e i h g =
    let j = handed-suc u ns ys k d y lt e i in
    let n : k + 1 ≡ suc k = omega arith in
    subst (λ z. c ≡ a + handed u (take z ns) (naturals (take z ys))) (sym n) (omega (arith, j, h, g))

-- ways are handed on along both edges of a choice, and along one if nothing is asked
pub handed_fork : (u : ℕ → ℕ) (f : Fork) (a b c x : ℕ) → 0 < f.chance → b ≡ a + x * 1 * u f.zero.to →
    c ≡ b + x * 1 * u f.one.to → c ≡ a + x * along u f.chance f
handed_fork u f a b c x lt h k = by_chance f.chance lt
  where
    by_chance : (n : ℕ) → 0 < n → c ≡ a + x * along u n f
    by_chance zero lt = absurd (let z : ⊥ = omega (arith, lt) in z)
    by_chance (suc n) lt =
        let v = u f.zero.to in
        let w = u f.one.to in
        let d : x * (v + w) ≡ x * 1 * v + x * 1 * w = grind arith in
        omega (arith, h, k, d)

pub handed_pass : (u : ℕ → ℕ) (f : Fork) (a b x : ℕ) → f.chance ≤ 0 → b ≡ a + x * 1 * u f.zero.to →
    b ≡ a + x * along u f.chance f
handed_pass u f a b x le h =
    let z : f.chance ≡ 0 = omega (arith, le) in
    let v = u f.zero.to in
    let d : x * v ≡ x * 1 * v = grind arith in
    let e : x * along u f.chance f ≡ x * v = ap (λ n. x * along u n f) z in
    omega (arith, h, d, e)

-- sums agree if the numbers of nodes with grades do, and the others count nothing
pub dot_graded : (u : ℕ → ℕ) (gs : List (Option ℕ)) (xs ys : List Natural) → length xs ≡ length ys →
    length gs ≡ length ys →
    ((i : ℕ) (d : Natural) → i < length ys → (slice_get gs i ≡ Some None)
    ⊎ (natural (slice_index_or xs i d) ≡ natural (slice_index_or ys i d))) →
    ((i : ℕ) → slice_get gs i ≡ Some None → u i ≡ 0) → dot u (naturals xs) ≡ dot u (naturals ys)
dot_graded u gs [] [] e f h v = refl
dot_graded u gs [] (y ∷ ys) e f h v = absurd (let z : ⊥ = omega (arith, e) in z)
dot_graded u gs (x ∷ xs) [] e f h v = absurd (let z : ⊥ = omega (arith, e) in z)
dot_graded u [] (x ∷ xs) (y ∷ ys) e f h v = absurd (let z : ⊥ = omega (arith, f) in z)
dot_graded u (g ∷ gs) (x ∷ xs) (y ∷ ys) e f h v =
    let k = dot_graded (λ i. u (suc i)) gs xs ys (omega (arith, e)) (omega (arith, f))
    (λ i d lt. h (suc i) d (omega (arith, lt))) (λ i s. v (suc i) s) in
    let first : natural x * u 0 ≡ natural y * u 0 = elim (h 0 x (omega arith)) [
      | inl n ↦
          let z = v 0 n in
          let a = ap (λ w. natural x * w) z in
          let b = ap (λ w. natural y * w) z in
          let c : natural x * 0 ≡ natural y * 0 = grind arith in
          a ∙ (c ∙ sym b)
      | inr s ↦ ap (λ w. w * u 0) s
    ] in
    omega (arith, k, first)

-- the nodes below an index are graded
abbrev pub AreGradedBelow : List Node → List (Option ℕ) → ℕ → Type 0
AreGradedBelow nodes grades k = (i : ℕ) (f : Fork) (g : Option ℕ) → i < k → slice_get nodes i ≡ Some (Goes f) →
    slice_get grades i ≡ Some g → IsGraded grades g f

pub graded_more : (nodes : List Node) (grades : List (Option ℕ)) (k : ℕ) (n : Node) (h : Option ℕ) →
    AreGradedBelow nodes grades k → n ≡ slice_index_or nodes k n → h ≡ slice_index_or grades k h →
    ((f : Fork) → n ≡ Goes f → IsGraded grades h f) → AreGradedBelow nodes grades (k + 1)
graded_more nodes grades k n h below en eh here i f g lt m s = by_order (below_or i k (omega (arith, lt)))
  where
    by_order : (i < k) ⊎ (i ≡ k) → IsGraded grades g f
    by_order (inl l) = below i f g l m s
    by_order (inr l) =
        let a : n ≡ Goes f = got_item nodes k (Goes f) n (subst (λ z. slice_get nodes z ≡ Some (Goes f)) l m) en in
        let b : h ≡ g = got_item grades k g h (subst (λ z. slice_get grades z ≡ Some g) l s) eh in
        subst (λ z. IsGraded grades z f) b (here f a)

    below_or : (i k : ℕ) → i < suc k → (i < k) ⊎ (i ≡ k)
    below_or zero zero lt = inr refl
    below_or zero (suc k) lt = inl (omega arith)
    below_or (suc i) zero lt = absurd (let z : ⊥ = omega (arith, lt) in z)
    below_or (suc i) (suc k) lt = elim (below_or i k (omega (arith, lt))) [ inl l ↦ inl (omega (arith, l)) | inr l ↦ inr (ap suc l) ]

pub graded_all : (nodes : List Node) (grades : List (Option ℕ)) (k : ℕ) → AreGradedBelow nodes grades k →
    length nodes ≤ k → AreGraded nodes grades
graded_all nodes grades k h le i f g m s =
    h i f g (let b = got_below nodes i (Goes f) m in omega (arith, b, le)) m s
