-- Proves how weights and steps under a limit grow with the limit, and along a run.
use Prim.Native.Nat.{zero, suc}
use Rattle.std.proofs.Common.{◌≡◌, ℕ, ◌+◌, ◌*◌, ◌-◌, ◌^◌, ◌<◌, ◌≤◌, Bool, true, false, refl, ap, sym, ◌∙◌, subst, arith}
use Rattle.std.proofs.Math.Nat.{mul-le-mul_left}
use Rattle.ick_code.specs.meaning.State.{State}
use Rattle.ick_code.specs.meaning.Move.{Asking, plain, choice, ended}
use Rattle.ick_outcomes.specs.Programs.{ask, advance, Program}
use Rattle.ick_outcomes.proofs.ProgramRuns.{chance_between}
use Rattle.ick_outcomes.specs.Weights.{part}
use Rattle.ick_chain.specs.Limits.{Test, any, all_if, ended_now, ended_on, ended_weight, going_now, going_on}
use Rattle.ick_chain.specs.Limits.{going_weight, steps_on, mean_steps}

-- the weights by what is asked
pub ended-zero : (p : Program) (q : Test) (s : State) (a : Asking) → ask p s ≡ a →
    ended_weight p q s 0 ≡ ended_now q a s
unfolding ended_weight
ended-zero p q s a h = ap (λ x. ended_now q x s) h

pub ended-suc : (p : Program) (q : Test) (s : State) (l : ℕ) (a : Asking) → ask p s ≡ a →
    ended_weight p q s (suc l) ≡ ended_on q a s l (λ b. ended_weight p q (advance p s b) l)
unfolding ended_weight
ended-suc p q s l a h = ap (λ x. ended_on q x s l (λ b. ended_weight p q (advance p s b) l)) h

pub going-zero : (p : Program) (s : State) (a : Asking) → ask p s ≡ a → going_weight p s 0 ≡ going_now a
unfolding going_weight
going-zero p s a h = ap going_now h

pub going-suc : (p : Program) (s : State) (l : ℕ) (a : Asking) → ask p s ≡ a →
    going_weight p s (suc l) ≡ going_on a (λ b. going_weight p (advance p s b) l)
unfolding going_weight
going-suc p s l a h = ap (λ x. going_on x (λ b. going_weight p (advance p s b) l)) h

pub steps-zero : (p : Program) (s : State) → mean_steps p s 0 ≡ 0
unfolding mean_steps
steps-zero p s = refl

pub steps-suc : (p : Program) (s : State) (l : ℕ) (a : Asking) → ask p s ≡ a →
    mean_steps p s (suc l) ≡ steps_on a l (λ b. mean_steps p (advance p s b) l)
unfolding mean_steps
steps-suc p s l a h = ap (λ x. steps_on x l (λ b. mean_steps p (advance p s b) l)) h

pub hundred : (l : ℕ) → 100 ^ suc l ≡ 100 * 100 ^ l
hundred l = grind arith

all-if-hundred : (b : Bool) (n : ℕ) → 100 * all_if b n ≡ all_if b (100 * n)
all-if-hundred true n = refl
all-if-hundred false n = refl

mix : (a b x x' y y' : ℕ) → 100 * x ≤ x' → 100 * y ≤ y' → 100 * (a * x + b * y) ≤ a * x' + b * y'
mix a b x x' y y' h k =
    let u = mul-le-mul_left a h in
    let v = mul-le-mul_left b k in
    let e : 100 * (a * x + b * y) ≡ a * (100 * x) + b * (100 * y) = grind arith in
    omega (arith, u, v, e)

xim : (a b x x' y y' : ℕ) → x' ≤ 100 * x → y' ≤ 100 * y → a * x' + b * y' ≤ 100 * (a * x + b * y)
xim a b x x' y y' h k =
    let u = mul-le-mul_left a h in
    let v = mul-le-mul_left b k in
    let e : 100 * (a * x + b * y) ≡ a * (100 * x) + b * (100 * y) = grind arith in
    omega (arith, u, v, e)

-- two parts are a hundred
pub parts-hundred : (c x : ℕ) → c < 100 → (100 - c) * x + c * x ≡ 100 * x
parts-hundred c x h =
    let m : 100 - c + c ≡ 100 = omega (arith, h) in
    let d : (100 - c) * x + c * x ≡ (100 - c + c) * x = grind arith in
    d ∙ ap (λ n. n * x) m

-- what has ended only grows
ended-start : (q : Test) (a : Asking) (s : State) (r : Bool → ℕ) → 100 * ended_now q a s ≤ ended_on q a s 0 r
ended-start q (ended e) s r = let k = all-if-hundred (q s) 1 in omega (arith, k)
ended-start q plain s r = omega arith
ended-start q (choice c) s r = omega arith

ended-step : (q : Test) (a : Asking) (s : State) (l : ℕ) (r r' : Bool → ℕ) → ((b : Bool) → 100 * r b ≤ r' b) →
    100 * ended_on q a s l r ≤ ended_on q a s (suc l) r'
ended-step q (ended e) s l r r' f =
    let k = all-if-hundred (q s) (100 ^ suc l) ∙ ap (all_if (q s)) (sym (hundred (suc l))) in omega (arith, k)
ended-step q plain s l r r' f = let k = f false in omega (arith, k)
ended-step q (choice c) s l r r' f = mix (100 - c) c (r false) (r' false) (r true) (r' true) (f false) (f true)

pub ended-grows : (p : Program) (q : Test) (s : State) (l : ℕ) →
    100 * ended_weight p q s l ≤ ended_weight p q s (suc l)
ended-grows p q s zero =
    let i = ended-zero p q s (ask p s) refl in
    let j = ended-suc p q s 0 (ask p s) refl in
    let k = ended-start q (ask p s) s (λ b. ended_weight p q (advance p s b) 0) in
    omega (arith, i, j, k)
ended-grows p q s (suc l) =
    let i = ended-suc p q s l (ask p s) refl in
    let j = ended-suc p q s (suc l) (ask p s) refl in
    let k = ended-step q (ask p s) s l (λ b. ended_weight p q (advance p s b) l)
    (λ b. ended_weight p q (advance p s b) (suc l)) (λ b. ended-grows p q (advance p s b) l) in
    omega (arith, i, j, k)

pub ended-plain : (p : Program) (q : Test) (s : State) (l : ℕ) → ask p s ≡ plain →
    ended_weight p q s l ≤ ended_weight p q (advance p s false) l
ended-plain p q s l h =
    let i = ended-grows p q s l in let j = ended-suc p q s l plain h in omega (arith, i, j)

pub ended-choice : (p : Program) (q : Test) (s : State) (l c : ℕ) → ask p s ≡ choice c →
    100 * ended_weight p q s l
    ≤ part c false * ended_weight p q (advance p s false) l + part c true * ended_weight p q (advance p s true) l
ended-choice p q s l c h =
    let i = ended-grows p q s l in let j = ended-suc p q s l (choice c) h in omega (arith, i, j)

-- what goes on only falls
going-one : (p : Program) (s : State) → going_weight p s 0 ≤ 1
going-one p s = let i = going-zero p s (ask p s) refl in let j = by_asking (ask p s) in omega (arith, i, j)
  where
    by_asking : (a : Asking) → going_now a ≤ 1
    by_asking (ended e) = omega arith
    by_asking plain = omega arith
    by_asking (choice c) = omega arith

going-start : (p : Program) (s : State) (a : Asking) → ask p s ≡ a → (r : Bool → ℕ) → ((b : Bool) → r b ≤ 1) →
    going_on a r ≤ 100 * going_now a
going-start p s (ended e) h r f = omega arith
going-start p s plain h r f = let k = f false in omega (arith, k)
going-start p s (choice c) h r f =
    let b = chance_between p s c h in
    let k = mul-le-mul_left (100 - c) (f false) in
    let m = mul-le-mul_left c (f true) in
    omega (arith, k, m, b.1)

going-step : (a : Asking) (r r' : Bool → ℕ) → ((b : Bool) → r' b ≤ 100 * r b) → going_on a r' ≤ 100 * going_on a r
going-step (ended e) r r' f = omega arith
going-step plain r r' f = let k = f false in omega (arith, k)
going-step (choice c) r r' f = xim (100 - c) c (r false) (r' false) (r true) (r' true) (f false) (f true)

pub going-falls : (p : Program) (s : State) (l : ℕ) → going_weight p s (suc l) ≤ 100 * going_weight p s l
going-falls p s zero =
    let i = going-zero p s (ask p s) refl in
    let j = going-suc p s 0 (ask p s) refl in
    let k = going-start p s (ask p s) refl (λ b. going_weight p (advance p s b) 0)
    (λ b. going-one p (advance p s b)) in
    omega (arith, i, j, k)
going-falls p s (suc l) =
    let i = going-suc p s l (ask p s) refl in
    let j = going-suc p s (suc l) (ask p s) refl in
    let k = going-step (ask p s) (λ b. going_weight p (advance p s b) l)
    (λ b. going_weight p (advance p s b) (suc l)) (λ b. going-falls p (advance p s b) l) in
    omega (arith, i, j, k)

pub going-plain : (p : Program) (s : State) (l : ℕ) → ask p s ≡ plain →
    going_weight p (advance p s false) l ≤ going_weight p s l
going-plain p s l h =
    let i = going-falls p s l in let j = going-suc p s l plain h in omega (arith, i, j)

pub going-choice : (p : Program) (s : State) (l c : ℕ) → ask p s ≡ choice c →
    part c false * going_weight p (advance p s false) l + part c true * going_weight p (advance p s true) l
    ≤ 100 * going_weight p s l
going-choice p s l c h =
    let i = going-falls p s l in let j = going-suc p s l (choice c) h in omega (arith, i, j)

-- the steps only grow
steps-step : (a : Asking) (l : ℕ) (r r' : Bool → ℕ) → ((b : Bool) → 100 * r b ≤ r' b) →
    100 * steps_on a l r ≤ steps_on a (suc l) r'
steps-step (ended e) l r r' f = omega arith
steps-step plain l r r' f = let k = f false in let h = hundred (suc l) in omega (arith, k, h)
steps-step (choice c) l r r' f =
    let h = hundred (suc l) in
    let k = mix (100 - c) c (r false) (r' false) (r true) (r' true) (f false) (f true) in
    omega (arith, k, h)

pub steps-grow : (p : Program) (s : State) (l : ℕ) → 100 * mean_steps p s l ≤ mean_steps p s (suc l)
steps-grow p s zero = let i = steps-zero p s in omega (arith, i)
steps-grow p s (suc l) =
    let i = steps-suc p s l (ask p s) refl in
    let j = steps-suc p s (suc l) (ask p s) refl in
    let k = steps-step (ask p s) l (λ b. mean_steps p (advance p s b) l)
    (λ b. mean_steps p (advance p s b) (suc l)) (λ b. steps-grow p (advance p s b) l) in
    omega (arith, i, j, k)

pub steps-plain : (p : Program) (s : State) (l : ℕ) → ask p s ≡ plain →
    mean_steps p s l ≤ 100 ^ l + mean_steps p (advance p s false) l
steps-plain p s l h =
    let i = steps-grow p s l in
    let j = steps-suc p s l plain h in
    let k = hundred l in
    omega (arith, i, j, k)

pub steps-choice : (p : Program) (s : State) (l c : ℕ) → ask p s ≡ choice c →
    100 * mean_steps p s l ≤ 100 * 100 ^ l
    + (part c false * mean_steps p (advance p s false) l + part c true * mean_steps p (advance p s true) l)
steps-choice p s l c h =
    let i = steps-grow p s l in
    let j = steps-suc p s l (choice c) h in
    let k = hundred l in
    omega (arith, i, j, k)

-- each run has ended or goes on
whole-now : (a : Asking) (s : State) → ended_now any a s + going_now a ≡ 1
whole-now (ended e) s = refl
whole-now plain s = refl
whole-now (choice c) s = refl

whole-on : (p : Program) (s : State) (a : Asking) → ask p s ≡ a → (l : ℕ) (r r' : Bool → ℕ) →
    ((b : Bool) → r b + r' b ≡ 100 ^ l) → ended_on any a s l r + going_on a r' ≡ 100 ^ suc l
whole-on p s (ended e) h l r r' f = let k : 100 ^ suc l + 0 ≡ 100 ^ suc l = omega arith in k
whole-on p s plain h l r r' f = let k = f false in let e = hundred l in omega (arith, k, e)
whole-on p s (choice c) h l r r' f =
    let b = chance_between p s c h in
    let m = parts-hundred c (100 ^ l) b.1 in
    let e = hundred l in
    let x = r false in
    let y = r true in
    let x' = r' false in
    let y' = r' true in
    let d : (100 - c) * x + c * y + ((100 - c) * x' + c * y') ≡ (100 - c) * (x + x') + c * (y + y') = grind arith in
    d ∙ (ap (λ n. (100 - c) * n + c * (y + y')) (f false)
    ∙ (ap (λ n. (100 - c) * 100 ^ l + c * n) (f true) ∙ (m ∙ sym e)))

pub whole : (p : Program) (s : State) (l : ℕ) → ended_weight p any s l + going_weight p s l ≡ 100 ^ l
whole p s zero =
    let i = ended-zero p any s (ask p s) refl in
    let j = going-zero p s (ask p s) refl in
    let k = whole-now (ask p s) s in
    omega (arith, i, j, k)
whole p s (suc l) =
    let i = ended-suc p any s l (ask p s) refl in
    let j = going-suc p s l (ask p s) refl in
    let k = whole-on p s (ask p s) refl l (λ b. ended_weight p any (advance p s b) l)
    (λ b. going_weight p (advance p s b) l) (λ b. whole p (advance p s b) l) in
    omega (arith, i, j, k)

-- what goes on has made all steps
going-steps-on : (p : Program) (s : State) (a : Asking) → ask p s ≡ a → (l : ℕ) (r r' : Bool → ℕ) →
    ((b : Bool) → r b ≤ 100 ^ l) → ((b : Bool) → l * r b ≤ r' b) → suc l * going_on a r ≤ steps_on a l r'
going-steps-on p s (ended e) h l r r' f g = let k : suc l * 0 ≡ 0 = grind arith in omega (arith, k)
going-steps-on p s plain h l r r' f g =
    let x = r false in
    let k : suc l * (100 * x) ≡ 100 * x + 100 * (l * x) = grind arith in
    let i = f false in
    let j = g false in
    let e = hundred l in
    omega (arith, i, j, k, e)
going-steps-on p s (choice c) h l r r' f g =
    let b = chance_between p s c h in
    let m = parts-hundred c (100 ^ l) b.1 in
    let e = hundred l in
    let a = 100 - c in
    let x = r false in
    let y = r true in
    let k : suc l * (a * x + c * y) ≡ (a * x + c * y) + (a * (l * x) + c * (l * y)) = grind arith in
    let i = mul-le-mul_left a (f false) in
    let j = mul-le-mul_left c (f true) in
    let u = mul-le-mul_left a (g false) in
    let v = mul-le-mul_left c (g true) in
    omega (arith, i, j, k, e, u, v, m)

pub going-steps : (p : Program) (s : State) (l : ℕ) → l * going_weight p s l ≤ mean_steps p s l
going-steps p s zero =
    let x = going_weight p s 0 in let k : 0 * x ≡ 0 = grind arith in omega (arith, k)
going-steps p s (suc l) =
    let i = going-suc p s l (ask p s) refl in
    let j = steps-suc p s l (ask p s) refl in
    let k = going-steps-on p s (ask p s) refl l (λ b. going_weight p (advance p s b) l)
    (λ b. mean_steps p (advance p s b) l)
    (λ b. let w = whole p (advance p s b) l in omega (arith, w)) (λ b. going-steps p (advance p s b) l) in
    subst (λ z. suc l * z ≤ mean_steps p s (suc l)) (sym i)
    (subst (λ z. suc l * going_on (ask p s) (λ b. going_weight p (advance p s b) l) ≤ z) (sym j) k)
