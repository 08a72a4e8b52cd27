-- A value of which the width and the number are known.
use Rattle.std.proofs.Common.{◌≡◌, ℕ, ◌<◌, sym, ap}
use Rattle.ick_bits.specs.Values.{Bits, Narrow, Wide, number_of, width_of, limit_of}
use Rattle.ick_bits.specs.declared.values.Width.TheVariants.{Sixteen, ThirtyTwo}

pub narrow-of : (value : Bits) (n : ℕ) → Sixteen ≡ width_of value → n ≡ number_of value →
    n < limit_of (width_of value) → (value ≡ Narrow n) × (n < 65536)
narrow-of (Narrow m) n w e l = (ap Narrow (sym e), l)
narrow-of (Wide m) n w e l = cc

pub wide-of : (value : Bits) (n : ℕ) → ThirtyTwo ≡ width_of value → n ≡ number_of value →
    n < limit_of (width_of value) → (value ≡ Wide n) × (n < 4294967296)
wide-of (Narrow m) n w e l = cc
wide-of (Wide m) n w e l = (ap Wide (sym e), l)
