-- Select by four bits at a time, and mingle by a byte at a time.
use Rattle.std.proofs.Common.{◌≡◌, ℕ, zero, suc, ◌+◌, ◌*◌, ◌/◌, ◌%◌, ◌^◌, ◌<◌}
use Rattle.std.proofs.Common.{◌≤◌, inl, inr, refl, ap, arith, ◌∙◌, sym, add-zero}
use Rattle.std.specs.Int.{bit_at}
use Rattle.std.proofs.lemmas.Nat.{pow-add, shr-shr, shr_split, mod-mul-add}
use Rattle.std.proofs.lemmas.Nat.Bits.{bit_at-zero, bit_at_cat_low}
use Rattle.ick_bits.specs.Operators.{sum_below, with_bits, ones_below, selected_bits, mingled_bit}
use Rattle.ick_bits.proofs.OperatorLemmas.{mingled-low, mingled-high, mingled-none, mingled-fits, bit-cases, two-suc}
use Rattle.ick_bits.proofs.OperatorLemmas.{ones-le, selected-fits}

-- a bit of a number that was moved to the right
pub bit-shr : (x m i : ℕ) → bit_at (x / 2 ^ m) i ≡ bit_at x (m + i)
bit-shr x m i = ap (λ y. y % 2) (shr-shr x m i)

pub ones-split : (b m n : ℕ) → ones_below b (m + n) ≡ ones_below b m + ones_below (b / 2 ^ m) n
unfolding ones_below sum_below
ones-split b m zero = rw (add-zero, add-zero) refl
ones-split b m (suc n) =
    let next : m + suc n ≡ suc (m + n) = omega arith in
    rw (next, bit-shr b m n) (omega (arith, ones-split b m n))

factored : (s p t x q : ℕ) → s + p * t + x * (p * q) ≡ s + p * (t + x * q)
factored s p t x q = omega arith

pub selected-split : (a b m n : ℕ) →
    selected_bits a b (m + n) ≡ selected_bits a b m + 2 ^ ones_below b m * selected_bits (a / 2 ^ m) (b / 2 ^ m) n
unfolding selected_bits sum_below
selected-split a b m zero = rw add-zero (omega arith)
selected-split a b m (suc n) =
    let next : m + suc n ≡ suc (m + n) = omega arith in
    rw (
      next,
      bit-shr a m n,
      bit-shr b m n,
      ones-split b m n,
      pow-add 2 (ones_below b m) (ones_below (b / 2 ^ m) n),
      selected-split a b m n,
    )
    (factored (selected_bits a b m) (2 ^ ones_below b m) (selected_bits (a / 2 ^ m) (b / 2 ^ m) n)
    (bit_at a (m + n) * bit_at b (m + n)) (2 ^ ones_below (b / 2 ^ m) n))

-- the low bits of a number
pub bit-low : (x k i : ℕ) → i < k → bit_at (x % 2 ^ k) i ≡ bit_at x i
bit-low x k i h = sym (bit_at_cat_low (x / 2 ^ k) k (x % 2 ^ k) i h) ∙ ap (λ y. bit_at y i) (shr_split x k)

-- select looks at no bit above
ones-low : (b k n : ℕ) → n ≤ k → ones_below (b % 2 ^ k) n ≡ ones_below b n
unfolding ones_below sum_below
ones-low b k zero h = refl
ones-low b k (suc n) h = rw (ones-low b k n (omega arith), bit-low b k n (omega arith)) refl

selected-low : (a b k n : ℕ) → n ≤ k → selected_bits (a % 2 ^ k) (b % 2 ^ k) n ≡ selected_bits a b n
unfolding selected_bits sum_below
selected-low a b k zero h = refl
selected-low a b k (suc n) h =
    rw (
      selected-low a b k n (omega arith),
      bit-low a k n (omega arith),
      bit-low b k n (omega arith),
      ones-low b k n (omega arith),
    ) refl

pub ones-of-none : (n : ℕ) → ones_below 0 n ≡ 0
unfolding ones_below sum_below
ones-of-none zero = refl
ones-of-none (suc n) = rw (ones-of-none n, bit_at-zero n) refl

pub selected-by-none : (a n : ℕ) → selected_bits a 0 n ≡ 0
unfolding selected_bits sum_below
selected-by-none a zero = refl
selected-by-none a (suc n) = rw (selected-by-none a n, bit_at-zero n) (omega arith)

-- a mask of n bits has no one above
gone : (b n : ℕ) → b < 2 ^ n → b / 2 ^ n ≡ 0
gone b n h = grind (arith, h)

ones-short : (b n k : ℕ) → b < 2 ^ n → ones_below b (n + k) ≡ ones_below b n
ones-short b n k h = rw (ones-split b n k, gone b n h, ones-of-none k) (omega arith)

selected-short : (a b n k : ℕ) → b < 2 ^ n → selected_bits a b (n + k) ≡ selected_bits a b n
selected-short a b n k h = rw (selected-split a b n k, gone b n h, selected-by-none (a / 2 ^ n) k) (omega arith)

-- four bits are done
pub ones-four : (b : ℕ) → b < 2 ^ 32 → ones_below b 32 ≡ ones_below (b % 16) 4 + ones_below (b / 16) 32
ones-four b h =
    let short : ones_below (b / 2 ^ 4) (28 + 4) ≡ ones_below (b / 2 ^ 4) 28 =
    ones-short (b / 2 ^ 4) 28 4 (omega arith) in
    ones-split b 4 28 ∙ ap (λ x. x + ones_below (b / 2 ^ 4) 28) (sym (ones-low b 4 4 (omega arith)))
    ∙ ap (λ x. ones_below (b % 2 ^ 4) 4 + x) (sym short)

pub selected-four : (a b : ℕ) → b < 2 ^ 32 →
    selected_bits a b 32
    ≡ selected_bits (a % 16) (b % 16) 4 + 2 ^ ones_below (b % 16) 4 * selected_bits (a / 16) (b / 16) 32
selected-four a b h =
    let short : selected_bits (a / 2 ^ 4) (b / 2 ^ 4) (28 + 4) ≡ selected_bits (a / 2 ^ 4) (b / 2 ^ 4) 28 =
    selected-short (a / 2 ^ 4) (b / 2 ^ 4) 28 4 (omega arith) in
    selected-split a b 4 28
    ∙ ap (λ x. x + 2 ^ ones_below b 4 * selected_bits (a / 2 ^ 4) (b / 2 ^ 4) 28)
    (sym (selected-low a b 4 4 (omega arith)))
    ∙ ap (λ k. selected_bits (a % 2 ^ 4) (b % 2 ^ 4) 4 + 2 ^ k * selected_bits (a / 2 ^ 4) (b / 2 ^ 4) 28)
    (sym (ones-low b 4 4 (omega arith)))
    ∙ ap (λ x. selected_bits (a % 2 ^ 4) (b % 2 ^ 4) 4 + 2 ^ ones_below (b % 2 ^ 4) 4 * x) (sym short)

ones-one : (b : ℕ) → ones_below b 1 ≡ b % 2
unfolding ones_below sum_below
ones-one b = omega arith

-- a mask that isn't zero has a one
pub ones-some : (n b : ℕ) → 0 < b → b < 2 ^ n → 0 < ones_below b n
ones-some zero b p h = absurd (omega arith)
ones-some (suc n) b p h =
    let split : ones_below b (suc n) ≡ ones_below b 1 + ones_below (b / 2 ^ 1) n =
    ap (ones_below b) (omega arith) ∙ ones-split b 1 n in
    let low : ones_below b 1 ≡ b % 2 = ones-one b in
    elim (bit-cases (b % 2) (omega arith)) [
      | inl even ↦ let rest = ones-some n (b / 2 ^ 1) (omega (arith, even)) (omega (arith, two-suc n)) in
          omega (arith, split, rest)
      | inr odd ↦ omega (arith, split, low, odd)
    ]

-- one more bit, with a zero above it
pub spread-next : (x i : ℕ) →
    with_bits (2 * (i + 1)) (mingled_bit 0 x) ≡ with_bits (2 * i) (mingled_bit 0 x) + bit_at x i * 2 ^ (2 * i)
spread-next x i = rw (mingled-high 0 x i, mingled-low 0 x i, bit_at-zero i) (omega arith)

-- mingle from two numbers with zeros between
doubled : (t u x y p : ℕ) → (2 * t + u + y * p) + x * (2 * p) ≡ 2 * (t + x * p) + (u + y * p)
doubled t u x y p = omega arith

pub mingled-whole : (a b n : ℕ) →
    with_bits (2 * n) (mingled_bit a b)
    ≡ 2 * with_bits (2 * n) (mingled_bit 0 a) + with_bits (2 * n) (mingled_bit 0 b)
unfolding with_bits sum_below
mingled-whole a b zero = refl
mingled-whole a b (suc n) =
    let next : suc n ≡ n + 1 = omega arith in
    let twice : 2 ^ (2 * n + 1) ≡ 2 * 2 ^ (2 * n) = ap (λ k. 2 ^ k) (omega arith) ∙ pow-add 2 1 (2 * n) in
    rw (next, mingled-high a b n, mingled-low a b n, spread-next a n, spread-next b n, mingled-whole a b n, twice)
    (doubled (with_bits (2 * n) (mingled_bit 0 a)) (with_bits (2 * n) (mingled_bit 0 b)) (bit_at a n) (bit_at b n)
    (2 ^ (2 * n)))

-- the low part and the high part
spread-high : (s p t x q : ℕ) → (s + p * t) + x * (p * q) ≡ s + p * (t + x * q)
spread-high s p t x q = omega arith

pub spread-split : (x m n : ℕ) →
    with_bits (2 * (m + n)) (mingled_bit 0 x)
    ≡ with_bits (2 * m) (mingled_bit 0 x) + 2 ^ (2 * m) * with_bits (2 * n) (mingled_bit 0 (x / 2 ^ m))
spread-split x m zero = rw (add-zero, mingled-none 0 (x / 2 ^ m)) (omega arith)
spread-split x m (suc n) =
    let next : m + suc n ≡ m + n + 1 = omega arith in
    let one : suc n ≡ n + 1 = omega arith in
    let place : 2 ^ (2 * (m + n)) ≡ 2 ^ (2 * m) * 2 ^ (2 * n) =
    ap (λ k. 2 ^ k) (omega arith) ∙ pow-add 2 (2 * m) (2 * n) in
    rw (next, one, spread-next x (m + n), spread-next (x / 2 ^ m) n, bit-shr x m n, place, spread-split x m n)
    (spread-high (with_bits (2 * m) (mingled_bit 0 x)) (2 ^ (2 * m)) (with_bits (2 * n) (mingled_bit 0 (x / 2 ^ m)))
    (bit_at x (m + n)) (2 ^ (2 * n)))

spread-low : (x k n : ℕ) → n ≤ k →
    with_bits (2 * n) (mingled_bit 0 (x % 2 ^ k)) ≡ with_bits (2 * n) (mingled_bit 0 x)
spread-low x k zero h = mingled-none 0 (x % 2 ^ k) ∙ sym (mingled-none 0 x)
spread-low x k (suc n) h =
    let one : suc n ≡ n + 1 = omega arith in
    rw (one, spread-next (x % 2 ^ k) n, spread-next x n, spread-low x k n (omega arith), bit-low x k n (omega arith))
    refl

pub spread-bytes : (x : ℕ) → with_bits 32 (mingled_bit 0 x)
    ≡ 65536 * with_bits 16 (mingled_bit 0 (x / 256)) + with_bits 16 (mingled_bit 0 (x % 256))
spread-bytes x =
    let split : with_bits 32 (mingled_bit 0 x)
    ≡ with_bits 16 (mingled_bit 0 x) + 65536 * with_bits 16 (mingled_bit 0 (x / 256)) = spread-split x 8 8 in
    let low : with_bits 16 (mingled_bit 0 (x % 256)) ≡ with_bits 16 (mingled_bit 0 x) =
    spread-low x 8 8 (omega arith) in
    omega (arith, split, low)

pub alternated-fits : (a b : ℕ) → with_bits 32 (mingled_bit a b) < 2 ^ 32
alternated-fits a b = mingled-fits a b 32 (omega arith)

-- what is packed is followed by the next four bits
packed-next : (p a q r s : ℕ) → p + (a + q * r) * s ≡ (p + a * s) + r * (s * q)
packed-next p a q r s = omega arith

pub four-packed : (t packed place from mask : ℕ) → mask < 2 ^ 32
    → t ≡ packed + selected_bits from mask 32 * 2 ^ place
    → t ≡ (packed + selected_bits (from % 16) (mask % 16) 4 * 2 ^ place)
    + selected_bits (from / 16) (mask / 16) 32 * 2 ^ (place + ones_below (mask % 16) 4)
four-packed t packed place from mask h e =
    e
    ∙ ap (λ x. packed + x * 2 ^ place) (selected-four from mask h)
    ∙ packed-next packed (selected_bits (from % 16) (mask % 16) 4) (2 ^ ones_below (mask % 16) 4)
    (selected_bits (from / 16) (mask / 16) 32) (2 ^ place)
    ∙ ap (λ x. (packed + selected_bits (from % 16) (mask % 16) 4 * 2 ^ place)
    + selected_bits (from / 16) (mask / 16) 32 * x) (sym (pow-add 2 place (ones_below (mask % 16) 4)))

-- so the next four bits fit at their place
pub four-fits : (a b packed place from mask : ℕ) → mask < 2 ^ 32
    → selected_bits a b 32 ≡ packed + selected_bits from mask 32 * 2 ^ place
    → packed + selected_bits (from % 16) (mask % 16) 4 * 2 ^ place < 2 ^ 32
four-fits a b packed place from mask h e =
    omega (arith, four-packed (selected_bits a b 32) packed place from mask h e, selected-fits a b 32 32 (ones-le b 32))

mod-small : (x n : ℕ) → x < n → x % n ≡ x
mod-small x n h =
    let e : x ≡ 0 * n + x = omega arith in
    ap (λ y. y % n) e ∙ mod-mul-add 0 n x h

pub four-shifted : (a b packed place from mask : ℕ) → mask < 2 ^ 32
    → selected_bits a b 32 ≡ packed + selected_bits from mask 32 * 2 ^ place
    → (selected_bits (from % 16) (mask % 16) 4 * 2 ^ place) % 2 ^ 32
    ≡ selected_bits (from % 16) (mask % 16) 4 * 2 ^ place
four-shifted a b packed place from mask h e =
    mod-small (selected_bits (from % 16) (mask % 16) 4 * 2 ^ place) (2 ^ 32)
    (omega (arith, four-fits a b packed place from mask h e))

pub place-below : (b place mask : ℕ) → 0 < mask → mask < 2 ^ 32 →
    ones_below b 32 ≡ place + ones_below mask 32 → place < 32
place-below b place mask p h e = omega (arith, ones-some 32 mask p h, ones-le b 32)

-- where no one is left, all is packed
pub all-packed : (t packed place from mask : ℕ) → mask ≡ 0 →
    t ≡ packed + selected_bits from mask 32 * 2 ^ place → packed ≡ t
all-packed t packed place from mask z e =
    let none : selected_bits from mask 32 ≡ 0 = rw z (selected-by-none from 32) in
    sym (e ∙ ap (λ x. packed + x * 2 ^ place) none ∙ omega arith)

pub all-placed : (t place mask : ℕ) → mask ≡ 0 → t ≡ place + ones_below mask 32 → place ≡ t
all-placed t place mask z e =
    let none : ones_below mask 32 ≡ 0 = rw z (ones-of-none 32) in
    omega (arith, e, none)
