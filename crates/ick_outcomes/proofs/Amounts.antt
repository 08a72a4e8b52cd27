-- Proves laws of amounts of the weight 1.
use Prim.Native.Nat.{zero, suc}
use Rattle.std.proofs.Common.{◌≡◌, ℕ, ◌+◌, ◌*◌, ◌-◌, ◌^◌, ◌≤◌, ap, sym, ◌∙◌, arith}
use Rattle.std.proofs.Math.Nat.{pow-succ'}
use Rattle.ick_outcomes.specs.Weights.{room, amount}

power-suc : (b n : ℕ) → b ^ suc n ≡ b * b ^ n
power-suc b n = pow-succ' b n

room-more : (k : ℕ) → suc k ≤ 4294967295 → room k ≡ 1000000000 * room (suc k)
unfolding room
room-more k le =
    let e : 4294967295 - k ≡ suc (4294967295 - suc k) = omega (arith, le) in
    ap (λ n. 1000000000 ^ n) e ∙ power-suc 1000000000 (4294967295 - suc k)

room-run : (d k : ℕ) → d + k ≤ 4294967295 → room k ≡ 1000000000 ^ d * room (d + k)
room-run zero k le =
    let e : room k ≡ 1 * room k = omega arith in
    let n : k ≡ 0 + k = omega arith in
    e ∙ ap (λ x. 1 * room x) n
room-run (suc d) k le =
    let i = room-run d k (omega (arith, le)) in
    let m = room-more (d + k) (omega (arith, le)) in
    let b = 1000000000 ^ d in
    let e : b * (1000000000 * room (suc (d + k))) ≡ 1000000000 * b * room (suc (d + k)) = grind arith in
    let n : suc (d + k) ≡ suc d + k = omega arith in
    i ∙ (ap (λ x. b * x) m ∙ (e ∙ (ap (λ x. 1000000000 * b * room x) n
    ∙ ap (λ x. x * room (suc d + k)) (sym (power-suc 1000000000 d)))))

-- with one more step left
amount-step : (t p l : ℕ) → suc l + p ≤ 4294967295 → amount t p (suc l) * 100 ≡ amount t p l
amount-step t p l le =
    let r = room (suc (l + p)) in
    let s = 10000000 ^ l in
    let n : suc l + p ≡ suc (l + p) = omega arith in
    let e : t * (r * (10000000 * s)) * 100 ≡ t * (1000000000 * r * s) = grind arith in
    ap (λ x. t * (room x * 10000000 ^ suc l) * 100) n
    ∙ (ap (λ x. t * (r * x) * 100) (power-suc 10000000 l)
    ∙ (e ∙ ap (λ x. t * (x * s)) (sym (room-more (l + p) (omega (arith, le))))))

pub amount-run : (k t p l : ℕ) → k + l + p ≤ 4294967295 → amount t p (k + l) * 100 ^ k ≡ amount t p l
amount-run zero t p l le =
    let n : 0 + l ≡ l = omega arith in
    let e : amount t p l * 1 ≡ amount t p l = omega arith in
    ap (λ x. amount t p x * 1) n ∙ e
amount-run (suc k) t p l le =
    let a = amount t p (suc (k + l)) in
    let h = 100 ^ k in
    let n : suc k + l ≡ suc (k + l) = omega arith in
    let e : a * (100 * h) ≡ a * 100 * h = grind arith in
    ap (λ x. amount t p x * 100 ^ suc k) n
    ∙ (ap (λ x. a * x) (power-suc 100 k)
    ∙ (e ∙ (ap (λ x. x * h) (amount-step t p (k + l) (omega (arith, le)))
    ∙ amount-run k t p l (omega (arith, le)))))

-- at the end of a run, its weight in parts
pub amount-end : (t p l : ℕ) → l + p ≤ 4294967295 → amount t p l * 100 ^ l ≡ amount t p 0
amount-end t p l le =
    let n : l + 0 ≡ l = omega arith in
    ap (λ x. amount t p x * 100 ^ l) (sym n) ∙ amount-run l t p 0 (omega (arith, le))

-- with more places
amount-places : (t d p l : ℕ) → l + (d + p) ≤ 4294967295 → amount t p l ≡ amount (t * 1000000000 ^ d) (d + p) l
amount-places t d p l le =
    let b = 1000000000 ^ d in
    let r = room (l + (d + p)) in
    let s = 10000000 ^ l in
    let n : d + (l + p) ≡ l + (d + p) = omega arith in
    let e : t * (b * r * s) ≡ t * b * (r * s) = grind arith in
    ap (λ x. t * (x * s)) (room-run d (l + p) (omega (arith, le)))
    ∙ (ap (λ x. t * (b * room x * s)) n ∙ e)

-- the amount of a sum
pub amount-plus : (a b t p q r l : ℕ) → p ≤ r → q ≤ r → l + r ≤ 4294967295 →
    t ≡ a * 1000000000 ^ (r - p) + b * 1000000000 ^ (r - q) → amount t r l ≡ amount a p l + amount b q l
amount-plus a b t p q r l u v le h =
    let x = 1000000000 ^ (r - p) in
    let y = 1000000000 ^ (r - q) in
    let z = room (l + r) * 10000000 ^ l in
    let m : r - p + p ≡ r = omega (arith, u) in
    let n : r - q + q ≡ r = omega (arith, v) in
    let e : (a * x + b * y) * z ≡ a * x * z + b * y * z = grind arith in
    ap (λ w. w * z) h
    ∙ (e ∙ (ap (λ w. amount (a * x) w l + b * y * z) (sym m)
    ∙ (ap (λ w. amount (a * x) (r - p + p) l + amount (b * y) w l) (sym n)
    ∙ (ap (λ w. w + amount (b * y) (r - q + q) l) (sym (amount-places a (r - p) p l (omega (arith, le, m))))
    ∙ ap (λ w. amount a p l + w) (sym (amount-places b (r - q) q l (omega (arith, le, n))))))))

-- the amount of some hundredths, with one step less left
pub amount-part : (n t u p q l : ℕ) → q ≤ suc p → suc l + p ≤ 4294967295 →
    u * 1000000000 ^ (suc p - q) ≡ t * (n * 10000000) → amount u q l ≡ n * amount t p (suc l)
amount-part n t u p q l le fits h =
    let d = suc p - q in
    let m : d + q ≡ suc p = omega (arith, le) in
    let r = room (suc l + p) in
    let s = 10000000 ^ l in
    let x : l + suc p ≡ suc l + p = omega arith in
    let e : t * (n * 10000000) * (r * s) ≡ n * (t * (r * (10000000 * s))) = grind arith in
    amount-places u d q l (omega (arith, fits, m))
    ∙ (ap (λ w. amount (u * 1000000000 ^ d) w l) m
    ∙ (ap (λ w. w * (room (l + suc p) * s)) h
    ∙ (ap (λ w. t * (n * 10000000) * (room w * s)) x
    ∙ (e ∙ ap (λ w. n * (t * (r * w))) (sym (power-suc 10000000 l))))))
