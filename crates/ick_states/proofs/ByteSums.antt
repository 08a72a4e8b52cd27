-- Proves lemmas on bytes that are added up.
use Prim.Native.Nat.{zero, suc}
use Rattle.std.proofs.Common.{◌≡◌, ◌≤◌, ℕ, ◌+◌, ◌<◌, List, [], ◌∷◌, take, length, get_or, refl, ap, ◌∙◌, arith}
use Rattle.ick_states.specs.Sizes.{all_bytes}

more : {T : Type 0} (size : T → ℕ) (xs : List T) (at : ℕ) (x : T) → at < length xs → x ≡ get_or xs at x →
    all_bytes size (take (suc at) xs) ≡ all_bytes size (take at xs) + size x
more size [] at x h e = absurd (let z : ⊥ = omega (arith, h) in z)
more size (y ∷ xs) zero x h e = (let k : size x ≡ size y = ap size e in omega (arith, k))
more size (y ∷ xs) (suc at) x h e = let k = more size xs at x (omega (arith, h)) e in omega (arith, k)

-- one value more
pub bytes_next : {T : Type 0} (size : T → ℕ) (xs : List T) (at : ℕ) (x : T) → at < length xs → x ≡ get_or xs at x →
    all_bytes size (take (at + 1) xs) ≡ all_bytes size (take at xs) + size x
bytes_next size xs at x h e =
    let n : at + 1 ≡ suc at = omega arith in ap (λ k. all_bytes size (take k xs)) n ∙ more size xs at x h e
