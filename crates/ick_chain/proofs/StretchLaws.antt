-- Proves that edges go as far as they may.
use Prim.Native.Nat.{zero, suc}
use Rattle.std.proofs.Common.{◌≡◌, ◌⊎◌, inl, inr, ℕ, ◌+◌, ◌<◌, ◌≤◌, List, Some, length, slice_get}
use Rattle.std.proofs.Common.{slice_index_or, ap, subst, arith, refl}
use Rattle.ick_chain.specs.declared.chain.Node.{Node}
use Rattle.ick_chain.specs.declared.chain.Node.TheVariants.{Ends}
use Rattle.ick_chain.specs.Stretched.{IsPassing, IsStretchedNode}
use Rattle.ick_chain.proofs.Placing.{got_same}
use Rattle.ick_chain.proofs.Pouring.{got_below}
use Rattle.ick_chain.proofs.RowLaws.{got_at}

-- the first nodes, as many as `at`, are right
abbrev pub AreStretchedBelow : List Node → ℕ → ℕ → Type 0
AreStretchedBelow nodes most at =
    (i : ℕ) (n : Node) → i < at → slice_get nodes i ≡ Some n → IsStretchedNode nodes most n

-- a node that is there doesn't pass, if the one at its index doesn't
pub no_pass : (nodes : List Node) (i : ℕ) (n : Node) → i < length nodes →
    (IsPassing (slice_index_or nodes i Ends) → ⊥) → slice_get nodes i ≡ Some n → IsPassing n → ⊥
no_pass nodes i n lt fails g h =
    fails (subst IsPassing (got_same nodes i n (slice_index_or nodes i Ends) g (got_at nodes i Ends lt)) h)

below_or : (i k : ℕ) → i < suc k → (i < k) ⊎ (i ≡ k)
below_or zero zero lt = inr refl
below_or zero (suc k) lt = inl (omega arith)
below_or (suc i) zero lt = absurd (let z : ⊥ = omega (arith, lt) in z)
below_or (suc i) (suc k) lt = elim (below_or i k (omega (arith, lt))) [ inl l ↦ inl (omega (arith, l)) | inr l ↦ inr (ap suc l) ]

pub stretched_more : (nodes : List Node) (most k : ℕ) → k < length nodes → AreStretchedBelow nodes most k →
    IsStretchedNode nodes most (slice_index_or nodes k Ends) → AreStretchedBelow nodes most (k + 1)
stretched_more nodes most k within h here i n lt g = elim (below_or i k (omega (arith, lt))) [
  | inl below ↦ h i n below g
  | inr same ↦
      let there = subst (λ z. slice_get nodes z ≡ Some n) same g in
      subst (IsStretchedNode nodes most)
      (got_same nodes k (slice_index_or nodes k Ends) n (got_at nodes k Ends within) there) here
]

pub stretched_all : (nodes : List Node) (most k : ℕ) → length nodes ≤ k → AreStretchedBelow nodes most k →
    (i : ℕ) (n : Node) → slice_get nodes i ≡ Some n → IsStretchedNode nodes most n
stretched_all nodes most k le h i n g = let b = got_below nodes i n g in h i n (omega (arith, b, le)) g
