-- Proves what comparing lists of choices position by position shows.
use Prim.Native.Nat.{zero, suc}
use Rattle.std.proofs.Common.{◌≡◌, ℕ, ◌+◌, ◌*◌, ◌-◌, ◌<◌, ◌≤◌, Bool, true, false, length, take, drop, List, [], ◌∷◌}
use Rattle.std.proofs.Common.{◌++◌, refl, ap, sym, ◌∙◌, arith, slice_index_or}
use Rattle.std.proofs.Math.Seq.{take-add}
use mathlib.Core.Bool.{beq, not}
use Rattle.std.specs.Bool.{Decides}
use Rattle.std.specs.Cmp.Lexicographic.{pointwise}
use Rattle.std.proofs.lemmas.Slice.Eq.{slice_eq-Decides}
use Rattle.ick_explorer.specs.Order.{IsBelow}
use Rattle.ick_outcomes.specs.Tallies.{lesser}

pub differs-below : (one other : List Bool) (i : ℕ) (c d : Bool) → i < length one → i < length other →
    take i one ≡ take i other → slice_index_or one i c ≡ false → slice_index_or other i d ≡ true → IsBelow one other
differs-below [] other i c d u v e f g = absurd (omega arith)
differs-below (x ∷ one) [] i c d u v e f g = absurd (omega arith)
differs-below (false ∷ one) (true ∷ other) zero c d u v e f g = tt
differs-below (true ∷ one) (y ∷ other) zero c d u v e f g = let z : true ≡ false = f in cc
differs-below (false ∷ one) (false ∷ other) zero c d u v e f g = let z : false ≡ true = g in cc
differs-below (false ∷ one) (false ∷ other) (suc i) c d u v e f g =
    let z : take i one ≡ take i other = cc in
    differs-below one other i c d (omega (arith, u)) (omega (arith, v)) z f g
differs-below (true ∷ one) (true ∷ other) (suc i) c d u v e f g =
    let z : take i one ≡ take i other = cc in
    differs-below one other i c d (omega (arith, u)) (omega (arith, v)) z f g
differs-below (false ∷ one) (true ∷ other) (suc i) c d u v e f g =
    let z : false ∷ take i one ≡ true ∷ take i other = e in cc
differs-below (true ∷ one) (false ∷ other) (suc i) c d u v e f g =
    let z : true ∷ take i one ≡ false ∷ take i other = e in cc

pub is_short : (one other : List Bool) (i : ℕ) → length one ≤ i → i ≤ length other →
    take i one ≡ take i other → lesser one other ≡ one
is_short [] other i u v e = refl
is_short (x ∷ one) other zero u v e = absurd (omega arith)
is_short (x ∷ one) [] (suc i) u v e = absurd (omega arith)
is_short (false ∷ one) (false ∷ other) (suc i) u v e =
    let z : take i one ≡ take i other = cc in
    ap (λ w. false ∷ w) (is_short one other i (omega (arith, u)) (omega (arith, v)) z)
is_short (true ∷ one) (true ∷ other) (suc i) u v e =
    let z : take i one ≡ take i other = cc in
    ap (λ w. true ∷ w) (is_short one other i (omega (arith, u)) (omega (arith, v)) z)
is_short (false ∷ one) (true ∷ other) (suc i) u v e = refl
is_short (true ∷ one) (false ∷ other) (suc i) u v e = let z : true ∷ take i one ≡ false ∷ take i other = e in cc

pub is_longer : (one other : List Bool) (i : ℕ) → i < length one → i ≡ length other →
    take i one ≡ take i other → lesser one other ≡ other
is_longer [] other i u v e = absurd (omega arith)
is_longer (x ∷ one) [] i u v e = refl
is_longer (x ∷ one) (y ∷ other) zero u v e = absurd (omega arith)
is_longer (false ∷ one) (false ∷ other) (suc i) u v e =
    let z : take i one ≡ take i other = cc in
    ap (λ w. false ∷ w) (is_longer one other i (omega (arith, u)) (omega (arith, v)) z)
is_longer (true ∷ one) (true ∷ other) (suc i) u v e =
    let z : take i one ≡ take i other = cc in
    ap (λ w. true ∷ w) (is_longer one other i (omega (arith, u)) (omega (arith, v)) z)
is_longer (false ∷ one) (true ∷ other) (suc i) u v e = let z : false ∷ take i one ≡ true ∷ take i other = e in cc
is_longer (true ∷ one) (false ∷ other) (suc i) u v e = refl

pub lesser-before : (one other : List Bool) → IsBelow one other → lesser one other ≡ one
lesser-before [] d h = absurd h
lesser-before (x ∷ c) [] h = absurd h
lesser-before (false ∷ c) (false ∷ d) h = ap (λ x. false ∷ x) (lesser-before c d h)
lesser-before (false ∷ c) (true ∷ d) h = refl
lesser-before (true ∷ c) (false ∷ d) h = absurd h
lesser-before (true ∷ c) (true ∷ d) h = ap (λ x. true ∷ x) (lesser-before c d h)

pub differ-other : (a b : Bool) → not (beq a b) ≡ true → b ≡ true → a ≡ false
differ-other false b h e = refl
differ-other true true h e = let z : false ≡ true = h in cc
differ-other true false h e = cc

pub differ-true : (a b : Bool) → not (beq a b) ≡ true → b ≡ false → a ≡ true
differ-true true b h e = refl
differ-true false false h e = let z : false ≡ true = h in cc
differ-true false true h e = cc

beq-decides : (a b : Bool) → Decides (beq a b) (a ≡ b)
beq-decides true true = (λ h. refl, λ h. refl)
beq-decides false false = (λ h. refl, λ h. refl)
beq-decides true false = (λ h. let z : false ≡ true = h in cc, λ h. let z : true ≡ false = h in cc)
beq-decides false true = (λ h. let z : false ≡ true = h in cc, λ h. let z : false ≡ true = h in cc)

pub same_lists : (xs ys : List Bool) (r : Bool) → r ≡ pointwise beq xs ys → r ≡ true → xs ≡ ys
same_lists xs ys r is h = (slice_eq-Decides beq-decides xs ys r is).0 h

-- lists that are equal up to a block, and in the block
pub same_blocks : (one other : List Bool) (block : ℕ) → take (block * 64) one ≡ take (block * 64) other →
    take (block * 64 + 64 - block * 64) (drop (block * 64) one)
    ≡ take (block * 64 + 64 - block * 64) (drop (block * 64) other) →
    take ((block + 1) * 64) one ≡ take ((block + 1) * 64) other
same_blocks one other block h e =
    let from = block * 64 in
    let n : from + 64 - from ≡ 64 = omega arith in
    let m : from + 64 ≡ (block + 1) * 64 = omega arith in
    let f : take 64 (drop from one) ≡ take 64 (drop from other) =
    sym (ap (λ k. take k (drop from one)) n) ∙ (e ∙ ap (λ k. take k (drop from other)) n) in
    sym (ap (λ k. take k one) m) ∙ (take-add from 64 one
    ∙ (ap (λ z. z ++ take 64 (drop from one)) h ∙ (ap (λ z. take from other ++ z) f
    ∙ (sym (take-add from 64 other) ∙ ap (λ k. take k other) m))))
