-- Proves that exact answers are pinned by what runs do under limits, so that there is one at most.
use Prim.Native.Nat.{zero, suc}
use Rattle.std.proofs.Common.{◌≡◌, ◌⊎◌, inl, inr, ℕ, ◌+◌, ◌*◌, ◌-◌, ◌^◌, ◌<◌, ◌≤◌, Bool, true, false, refl, ap, ◌∙◌, arith}
use Rattle.std.proofs.Math.Nat.{mul-le-mul_left, le_of_mul-le-mul_right}
use Rattle.ick_code.specs.meaning.State.{State}
use Rattle.ick_code.specs.meaning.Move.{Asking, plain, choice, ended}
use Rattle.ick_outcomes.specs.Programs.{ask, advance, Program}
use Rattle.ick_chain.specs.Limits.{Test, any, all_if, ended_now, ended_on, ended_weight, going_weight}
use Rattle.ick_chain.specs.Chains.{IsExact, negate, IsOneAnswer}
use Rattle.ick_chain.proofs.LimitLaws.{ended-zero, ended-suc, whole}

-- runs that pass and runs that don't are all that end
both-if : (b : Bool) (n : ℕ) → all_if b n + all_if (negate b) n ≡ n
both-if true n = let e : n + 0 ≡ n = omega arith in e
both-if false n = let e : 0 + n ≡ n = omega arith in e

both-now : (q : Test) (a : Asking) (s : State) →
    ended_now q a s + ended_now (λ s. negate (q s)) a s ≡ ended_now any a s
both-now q (ended e) s = both-if (q s) 1
both-now q plain s = refl
both-now q (choice c) s = refl

both-on : (q : Test) (a : Asking) (s : State) (l : ℕ) (r r' t : Bool → ℕ) → ((b : Bool) → r b + r' b ≡ t b) →
    ended_on q a s l r + ended_on (λ s. negate (q s)) a s l r' ≡ ended_on any a s l t
both-on q (ended e) s l r r' t f = both-if (q s) (100 ^ suc l)
both-on q plain s l r r' t f = let k = f false in omega (arith, k)
both-on q (choice c) s l r r' t f =
    let x = r false in
    let y = r true in
    let x' = r' false in
    let y' = r' true in
    let a = 100 - c in
    let d : a * x + c * y + (a * x' + c * y') ≡ a * (x + x') + c * (y + y') = grind arith in
    d ∙ (ap (λ n. a * n + c * (y + y')) (f false) ∙ ap (λ n. a * t false + c * n) (f true))

both : (p : Program) (q : Test) (s : State) (l : ℕ) →
    ended_weight p q s l + ended_weight p (λ s. negate (q s)) s l ≡ ended_weight p any s l
both p q s zero =
    let i = ended-zero p q s (ask p s) refl in
    let j = ended-zero p (λ s. negate (q s)) s (ask p s) refl in
    let k = ended-zero p any s (ask p s) refl in
    let b = both-now q (ask p s) s in
    omega (arith, i, j, k, b)
both p q s (suc l) =
    let i = ended-suc p q s l (ask p s) refl in
    let j = ended-suc p (λ s. negate (q s)) s l (ask p s) refl in
    let k = ended-suc p any s l (ask p s) refl in
    let b = both-on q (ask p s) s l (λ b. ended_weight p q (advance p s b) l)
    (λ b. ended_weight p (λ s. negate (q s)) (advance p s b) l) (λ b. ended_weight p any (advance p s b) l)
    (λ b. both p q (advance p s b) l) in
    omega (arith, i, j, k, b)

module _ (p : Program) (s : State) (parts : ℕ) (weight : Test → ℕ) (forever steps : ℕ)
    (h : IsExact p s parts weight forever steps) where
  -- a weight is at most what has ended and what goes on and may still end
  pub pinned : (q : Test) (l : ℕ) →
      (weight q + forever) * 100 ^ l ≤ parts * (ended_weight p q s l + going_weight p s l)
  pinned q l =
      let m = 100 ^ l in
      let w = h.whole q in
      let a = weight q in
      let b = weight (λ s. negate (q s)) in
      let x = ended_weight p q s l in
      let y = ended_weight p (λ s. negate (q s)) s l in
      let g = going_weight p s l in
      let i = h.ends (λ s. negate (q s)) l in
      let j = both p q s l in
      let k = whole p s l in
      let all : x + g + y ≡ m = omega (arith, j, k) in
      let all' : parts * (x + g + y) ≡ parts * m = ap (λ n. parts * n) all in
      let w' : (a + b + forever) * m ≡ parts * m = ap (λ n. n * m) w in
      let d : (a + b + forever) * m ≡ (a + forever) * m + b * m = grind arith in
      let e : parts * (x + g + y) ≡ parts * (x + g) + parts * y = grind arith in
      omega (arith, i, all', w', d, e)

-- what is at most a fixed number, however often it is taken, is nothing
small : (x y c : ℕ) → ((l : ℕ) → 100 * (l * x) ≤ 100 * (l * y) + c) → x ≤ y
small x y c f =
    let k = f (suc c) in
    elim (by_order x y) [
      | inl le ↦ le
      | inr lt ↦ absurd (let i = mul-le-mul_left (suc c) lt in
          let d : suc c * suc y ≡ suc c * y + suc c = grind arith in
          let z : ⊥ = omega (arith, k, i, d) in z)
    ]
  where
    by_order : (x y : ℕ) → (x ≤ y) ⊎ (suc y ≤ x)
    by_order zero y = inl (omega arith)
    by_order (suc x) zero = inr (omega arith)
    by_order (suc x) (suc y) = elim (by_order x y) [ inl l ↦ inl (omega (arith, l)) | inr l ↦ inr (omega (arith, l)) ]

power-some : (l : ℕ) → 0 < 100 ^ l
power-some zero = omega arith
power-some (suc l) = let k = power-some l in let e : 100 ^ suc l ≡ 100 * 100 ^ l = grind arith in omega (arith, k, e)

weight-least : (p : Program) (s : State) (a b : ℕ) (v w : Test → ℕ) (f g m n : ℕ) → IsExact p s a v f m →
    IsExact p s b w g n → (q : Test) → b * v q ≤ a * w q
weight-least p s a b v w f g m n h k q = small (b * v q) (a * w q) (b * m) (λ l.
    let t = 100 ^ l in
    let x = ended_weight p q s l in
    let r = going_weight p s l in
    let c = 100 * l in
    let pin = mul-le-mul_left (c * b) (pinned p s a v f m h q l) in
    let ends = mul-le-mul_left (c * a) (k.ends q l) in
    let soon = mul-le-mul_left b (h.soon l) in
    let d1 : c * b * ((v q + f) * t) ≡ (100 * (l * (b * v q)) + b * (100 * (l * f))) * t = grind arith in
    let d2 : c * b * (a * (x + r)) ≡ c * a * (b * x) + b * (100 * (l * (a * r))) = grind arith in
    let d3 : c * a * (w q * t) ≡ 100 * (l * (a * w q)) * t = grind arith in
    let d4 : b * ((m + 100 * (l * f)) * t) ≡ (b * m + b * (100 * (l * f))) * t = grind arith in
    let y = 100 * (l * (b * v q)) in
    let z = 100 * (l * (a * w q)) in
    let o = b * (100 * (l * f)) in
    let e1 : (y + o) * t ≡ y * t + o * t = grind arith in
    let e4 : (b * m + o) * t ≡ b * m * t + o * t = grind arith in
    let e5 : (z + b * m) * t ≡ z * t + b * m * t = grind arith in
    let all : y * t ≤ (z + b * m) * t = omega (arith, pin, ends, soon, d1, d2, d3, d4, e1, e4, e5) in
    le_of_mul-le-mul_right {m = y} {n = z + b * m} {k = t} all (power-some l))

forever-least : (p : Program) (s : State) (a b : ℕ) (v w : Test → ℕ) (f g m n : ℕ) → IsExact p s a v f m →
    IsExact p s b w g n → b * f ≤ a * g
forever-least p s a b v w f g m n h k = small (b * f) (a * g) (a * n) (λ l.
    let t = 100 ^ l in
    let r = going_weight p s l in
    let goes = mul-le-mul_left (100 * l * b) (h.goes l) in
    let soon = mul-le-mul_left a (k.soon l) in
    let y = 100 * (l * (b * f)) in
    let z = 100 * (l * (a * g)) in
    let d1 : 100 * l * b * (f * t) ≡ y * t = grind arith in
    let d2 : 100 * l * b * (a * r) ≡ a * (100 * (l * (b * r))) = grind arith in
    let d3 : a * ((n + 100 * (l * g)) * t) ≡ (z + a * n) * t = grind arith in
    let all : y * t ≤ (z + a * n) * t = omega (arith, goes, soon, d1, d2, d3) in
    le_of_mul-le-mul_right {m = y} {n = z + a * n} {k = t} all (power-some l))

equal : (x y : ℕ) → x ≤ y → y ≤ x → x ≡ y
equal x y h k = omega (arith, h, k)

pub one_answer : (p : Program) (s : State) → IsOneAnswer p s
one_answer p s a b v w f g m n h k = record {
  weights = λ q. equal (b * v q) (a * w q) (weight-least p s a b v w f g m n h k q)
      (weight-least p s b a w v g f n m k h q);
  forever = equal (b * f) (a * g) (forever-least p s a b v w f g m n h k) (forever-least p s b a w v g f n m k h);
}
