-- Sums over positions, and the bits of a number.
use Rattle.std.proofs.Common.{◌≡◌, ℕ, zero, suc, ◌+◌, ◌-◌, ◌*◌, ◌/◌, ◌%◌, ◌^◌, ◌<◌}
use Rattle.std.proofs.Common.{◌≤◌, ◌⊎◌, inl, inr, refl, ap, arith, ◌∙◌, sym, add-one, add-zero}
use Rattle.std.proofs.Common.{bit_and, bit_or, bit_xor, min, max, ◌==◌, true, false, if◌then◌else◌}
use Rattle.std.specs.Int.{bit_at}
use Rattle.std.proofs.lemmas.Nat.{mod-mul-add, div-add-mod', or_lt, xor_lt, pow_below, and_le_l, mod_below}
use Rattle.std.proofs.lemmas.Nat.Bits.{bit_at-lt, bit_at-suc, bit_at_lowest, bit_at-zero, bit_at_above, bit_at_cat_low}
use Rattle.std.proofs.lemmas.Nat.Bits.{bit_at_cat_high, bit_at_and, bit_at_or, bit_at_xor, same_from_bits_below}
use Rattle.ick_bits.specs.Operators.{sum_below, with_bits, ones_below, selected_bits, and_bit, or_bit, xor_bit}
use Rattle.ick_bits.specs.Operators.{with_neighbours, mingled_bit, selected}
use Rattle.ick_bits.specs.Values.{Bits, Narrow, Wide, number_of}
use Rattle.std.specs.Prelude.{nat_lt}
use Rattle.std.proofs.lemmas.Bool.Decides.{nat_tests}

-- a position holds 0 or 1
abbrev pub AreBits : (ℕ → ℕ) → Type 0
AreBits f = (i : ℕ) → f i < 2

pub bit-cases : (b : ℕ) → b < 2 → (b ≡ 0) ⊎ (b ≡ 1)
bit-cases b h = grind arith

bit-times : (b x : ℕ) → b < 2 → b * x ≤ x
bit-times b x h = elim (bit-cases b h) [ inl e ↦ rw e (omega arith) | inr e ↦ rw e (omega arith) ]

-- a number by its bits stays below 2 ^ n
pub with_bits-lt : (f : ℕ → ℕ) → AreBits f → (n : ℕ) → with_bits n f < 2 ^ n
unfolding with_bits sum_below
with_bits-lt f b zero = omega arith
with_bits-lt f b (suc n) = omega (arith, with_bits-lt f b n, bit-times (f n) (2 ^ n) (b n))

below-or-last : (i n : ℕ) → i < suc n → (i < n) ⊎ (i ≡ n)
below-or-last i n h = grind arith

small-mod : (b : ℕ) → b < 2 → b % 2 ≡ b
small-mod b h = omega arith

-- and has these bits
pub bit-with_bits : (f : ℕ → ℕ) → AreBits f → (n i : ℕ) → i < n → bit_at (with_bits n f) i ≡ f i
unfolding with_bits sum_below
bit-with_bits f b zero i h = absurd (omega arith)
bit-with_bits f b (suc n) i h =
    let swap : with_bits (suc n) f ≡ f n * 2 ^ n + with_bits n f = omega arith in
    elim (below-or-last i n h) [
      | inl lower ↦
          ap (λ x. bit_at x i) swap ∙ bit_at_cat_low (f n) n (with_bits n f) i lower ∙ bit-with_bits f b n i lower
      | inr last ↦
          let one : bit_at (f n * 2 ^ n + with_bits n f) n ≡ bit_at (f n) (n - n) =
          bit_at_cat_high (f n) n (with_bits n f) n (with_bits-lt f b n) (omega arith) in
          let z : n - n ≡ 0 = omega arith in
          let low : bit_at (f n) 0 ≡ f n = bit_at_lowest (f n) ∙ small-mod (f n) (b n) in
          rw last (ap (λ x. bit_at x n) swap ∙ one ∙ ap (bit_at (f n)) z ∙ low)
    ]

-- the number with these bits is the only one
pub with_bits-is : (f : ℕ → ℕ) → AreBits f → (n x : ℕ) →
    x < 2 ^ n → ((i : ℕ) → i < n → bit_at x i ≡ f i) → x ≡ with_bits n f
with_bits-is f b n x s e =
    same_from_bits_below n x (with_bits n f) s (with_bits-lt f b n) (λ i h. e i h ∙ sym (bit-with_bits f b n i h))

small-mod-suc : (i h : ℕ) → i < h → (i + 1) % suc h ≡ suc i
small-mod-suc i h l =
    let z : i + 1 ≡ 0 * suc h + suc i = omega arith in
    ap (λ x. x % suc h) z ∙ mod-mul-add 0 (suc h) (suc i) (omega arith)

last-mod : (h : ℕ) → (h + 1) % suc h ≡ 0
last-mod h =
    let z : h + 1 ≡ 1 * suc h + 0 = omega arith in
    ap (λ x. x % suc h) z ∙ mod-mul-add 1 (suc h) 0 (omega arith)

pub two-suc : (h : ℕ) → 2 ^ suc h ≡ 2 * 2 ^ h
two-suc h = omega arith

two-pos : (h : ℕ) → 0 < 2 ^ h
two-pos zero = omega arith
two-pos (suc h) = omega (arith, two-pos h)

-- the lowest bit, moved to place h
kept-bit : (h n : ℕ) → (n * 2 ^ h) % 2 ^ suc h ≡ (n % 2) * 2 ^ h
kept-bit h n =
    let small : (n % 2) * 2 ^ h < 2 ^ suc h = omega (arith, bit-times (n % 2) (2 ^ h) (omega arith), two-pos h) in
    let cut : n * 2 ^ h ≡ ((n / 2) * 2 + n % 2) * 2 ^ h = ap (λ x. x * 2 ^ h) (sym (div-add-mod' n 2)) in
    let out : ((n / 2) * 2 + n % 2) * 2 ^ h ≡ (n / 2) * (2 * 2 ^ h) + (n % 2) * 2 ^ h = omega arith in
    let e : n * 2 ^ h ≡ (n / 2) * 2 ^ suc h + (n % 2) * 2 ^ h =
    cut ∙ out ∙ ap (λ x. (n / 2) * x + (n % 2) * 2 ^ h) (sym (two-suc h)) in
    rw e (mod-mul-add (n / 2) (2 ^ suc h) ((n % 2) * 2 ^ h) small)

no-bit : (h n i : ℕ) → i < h → bit_at ((n % 2) * 2 ^ h) i ≡ 0
no-bit h n i l = let e = bit_at_cat_low (n % 2) h 0 i l in
    let z : (n % 2) * 2 ^ h + 0 ≡ (n % 2) * 2 ^ h = omega arith in rw z at e ∙ bit_at-zero i

top-bit : (h n : ℕ) → bit_at ((n % 2) * 2 ^ h) h ≡ n % 2
top-bit h n =
    let z : (n % 2) * 2 ^ h + 0 ≡ (n % 2) * 2 ^ h = omega arith in
    let d : h - h ≡ 0 = omega arith in
    let e = bit_at_cat_high (n % 2) h 0 h (two-pos h) (omega arith) in
    ap (λ x. bit_at x h) (sym z) ∙ e ∙ ap (bit_at (n % 2)) d ∙ bit_at_lowest (n % 2)
    ∙ small-mod (n % 2) (omega arith)

half-lt : (h n : ℕ) → n < 2 ^ suc h → n / 2 < 2 ^ h
half-lt h n s = omega (arith, two-suc h)

-- what a rotation by one place to the right has at a position
pub bit-rotated : (h n i : ℕ) → n < 2 ^ suc h → i < suc h →
    bit_at (bit_or (n / 2) ((n * 2 ^ h) % 2 ^ suc h)) i ≡ bit_at n ((i + 1) % suc h)
bit-rotated h n i s l =
    let r : (n * 2 ^ h) % 2 ^ suc h ≡ (n % 2) * 2 ^ h = kept-bit h n in
    rw (bit_at_or, r) (elim (below-or-last i h l) [
      | inl lower ↦
          let m : (i + 1) % suc h ≡ suc i = small-mod-suc i h lower in
          let a : bit_at ((n % 2) * 2 ^ h) i ≡ 0 = no-bit h n i lower in
          rw (m, a, bit_at-suc n i) (omega arith)
      | inr last ↦
          let high : bit_at (n / 2) h ≡ 0 = bit_at_above (n / 2) h h (half-lt h n s) (omega arith) in
          let low : bit_at ((n % 2) * 2 ^ h) h ≡ n % 2 = top-bit h n in
          rw (last, high, low, last-mod h, bit_at_lowest) (omega arith)
    ])

rotated-lt : (h n : ℕ) → n < 2 ^ suc h → bit_or (n / 2) ((n * 2 ^ h) % 2 ^ suc h) < 2 ^ suc h
rotated-lt h n s =
    or_lt (suc h) (n / 2) ((n * 2 ^ h) % 2 ^ suc h) (omega arith) (mod_below (n * 2 ^ h) (2 ^ suc h) (two-pos (suc h)))

-- the unary operators: with a rotation
pub and-rotated : (h n : ℕ) → n < 2 ^ suc h →
    bit_and n (bit_or (n / 2) ((n * 2 ^ h) % 2 ^ suc h)) ≡ with_neighbours and_bit (suc h) n
unfolding with_neighbours
and-rotated h n s =
    let r = bit_or (n / 2) ((n * 2 ^ h) % 2 ^ suc h) in
    with_bits-is (λ i. min (bit_at n i) (bit_at n ((i + 1) % suc h))) (λ i. omega (arith, bit_at-lt n i)) (suc h)
    (bit_and n r) (omega (arith, and_le_l n r))
    (λ i l. bit_at_and n r i ∙ ap (λ b. min (bit_at n i) b) (bit-rotated h n i s l))

pub or-rotated : (h n : ℕ) → n < 2 ^ suc h →
    bit_or n (bit_or (n / 2) ((n * 2 ^ h) % 2 ^ suc h)) ≡ with_neighbours or_bit (suc h) n
unfolding with_neighbours
or-rotated h n s =
    let r = bit_or (n / 2) ((n * 2 ^ h) % 2 ^ suc h) in
    with_bits-is (λ i. max (bit_at n i) (bit_at n ((i + 1) % suc h)))
    (λ i. omega (arith, bit_at-lt n i, bit_at-lt n ((i + 1) % suc h))) (suc h) (bit_or n r)
    (or_lt (suc h) n r s (rotated-lt h n s))
    (λ i l. bit_at_or n r i ∙ ap (λ b. max (bit_at n i) b) (bit-rotated h n i s l))

pub xor-rotated : (h n : ℕ) → n < 2 ^ suc h →
    bit_xor n (bit_or (n / 2) ((n * 2 ^ h) % 2 ^ suc h)) ≡ with_neighbours xor_bit (suc h) n
unfolding with_neighbours
xor-rotated h n s =
    let r = bit_or (n / 2) ((n * 2 ^ h) % 2 ^ suc h) in
    with_bits-is (λ i. (bit_at n i + bit_at n ((i + 1) % suc h)) % 2) (λ i. omega arith) (suc h) (bit_xor n r)
    (xor_lt (suc h) n r s (rotated-lt h n s))
    (λ i l. bit_at_xor n r i ∙ ap (λ b. (bit_at n i + b) % 2) (bit-rotated h n i s l))

-- mingle: two bits more
pub mingled-bits : (a b : ℕ) → AreBits (mingled_bit a b)
mingled-bits a b i =
    elim (i % 2 == 1) as (λ t. (if t then bit_at a (i / 2) else bit_at b (i / 2)) < 2) [
      | true ↦
          bit_at-lt a (i / 2)
      | false ↦ bit_at-lt b (i / 2)
    ]

pub mingled-low : (a b i : ℕ) →
    with_bits (2 * i + 1) (mingled_bit a b) ≡ with_bits (2 * i) (mingled_bit a b) + bit_at b i * 2 ^ (2 * i)
unfolding with_bits sum_below
mingled-low a b i =
    let even : (2 * i) % 2 ≡ 0 = omega arith in
    let half : (2 * i) / 2 ≡ i = omega arith in
    rw (add-one, even, half) refl

pub mingled-high : (a b i : ℕ) →
    with_bits (2 * (i + 1)) (mingled_bit a b) ≡ with_bits (2 * i + 1) (mingled_bit a b) + bit_at a i * 2 ^ (2 * i + 1)
unfolding with_bits sum_below
mingled-high a b i =
    let next : 2 * (i + 1) ≡ suc (2 * i + 1) = omega arith in
    let odd : (2 * i + 1) % 2 ≡ 1 = omega arith in
    let half : (2 * i + 1) / 2 ≡ i = omega arith in
    rw (next, odd, half) refl

selected-step : (s k x y : ℕ) → s < 2 ^ k → x < 2 → y < 2 → s + x * y * 2 ^ k < 2 ^ (k + y)
selected-step s k x y h i j = elim (bit-cases y j) [
  | inl e ↦ rw (e, add-zero) (omega arith)
  | inr e ↦ let t = bit-times x (2 ^ k) i in rw (e, add-one) (omega (arith, two-suc k, t))
]

-- select: one position more
pub selected-lt : (a b n : ℕ) → selected_bits a b n < 2 ^ ones_below b n
unfolding selected_bits ones_below sum_below
selected-lt a b zero = omega arith
selected-lt a b (suc n) =
    selected-step (selected_bits a b n) (ones_below b n) (bit_at a n) (bit_at b n) (selected-lt a b n) (bit_at-lt a n)
    (bit_at-lt b n)

pub ones-le : (b n : ℕ) → ones_below b n ≤ n
unfolding ones_below sum_below
ones-le b zero = omega arith
ones-le b (suc n) = omega (arith, ones-le b n, bit_at-lt b n)

-- powers of 2 in order
pow-mono : (m n : ℕ) → m ≤ n → 2 ^ m ≤ 2 ^ n
pow-mono m n h =
    elim (below-or-last m n (omega arith)) [ inl l ↦ omega (arith, pow_below m n l) | inr e ↦ rw e (omega arith) ]

pub mingled-fits : (a b n : ℕ) → n ≤ 32 → with_bits n (mingled_bit a b) < 2 ^ 32
mingled-fits a b n h = omega (arith, with_bits-lt (mingled_bit a b) (mingled-bits a b) n, pow-mono n 32 h)

pub mingled-none : (a b : ℕ) → with_bits 0 (mingled_bit a b) ≡ 0
unfolding with_bits sum_below
mingled-none a b = refl

pub selected-fits : (a b n k : ℕ) → ones_below b n ≤ k → selected_bits a b n < 2 ^ k
selected-fits a b n k h = omega (arith, selected-lt a b n, pow-mono (ones_below b n) k h)

pub selected-wide : (a b : Bits) (f m p : ℕ) → f ≡ number_of a → m ≡ number_of b →
    p ≡ selected_bits f m 32 → 16 < ones_below m 32 → Wide p ≡ selected a b
unfolding selected
selected-wide a b f m p ea eb e h =
    let t : nat_lt 16 (ones_below (number_of b) 32) ≡ true = grind (arith, nat_tests, rw eb at h) in
    rw (t, e, ea, eb) refl

pub selected-narrow : (a b : Bits) (f m p : ℕ) → f ≡ number_of a → m ≡ number_of b →
    p ≡ selected_bits f m 32 → ones_below m 32 ≤ 16 → Narrow p ≡ selected a b
unfolding selected
selected-narrow a b f m p ea eb e h =
    let t : nat_lt 16 (ones_below (number_of b) 32) ≡ false = grind (arith, nat_tests, rw eb at h) in
    rw (t, e, ea, eb) refl
