-- Proves which weight a node has.
use Prim.Native.Nat.{zero, suc}
use Rattle.std.proofs.Common.{◌≡◌, ℕ, ◌<◌, List, [], ◌∷◌, Some, length, slice_get, slice_index_or, ap, sym, arith}
use Rattle.ick_numbers.specs.Values.{natural, naturals}
use Rattle.ick_numbers.specs.declared.natural.Natural.{Natural}

pub got_natural : (ns : List Natural) (i : ℕ) (x : Natural) → i < length ns → x ≡ slice_index_or ns i x →
    slice_get (naturals ns) i ≡ Some (natural x)
got_natural [] i x lt e = absurd (let z : ⊥ = omega (arith, lt) in z)
got_natural (y ∷ ns) zero x lt e = ap (λ z. Some (natural z)) (sym e)
got_natural (y ∷ ns) (suc i) x lt e = got_natural ns i x (omega (arith, lt)) e
