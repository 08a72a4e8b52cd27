-- Proves how weights and steps under a limit pass along the edges of a chain.
use Prim.Native.Nat.{zero, suc}
use Rattle.std.proofs.Common.{◌≡◌, inl, inr, ℕ, ◌+◌, ◌*◌, ◌-◌, ◌^◌, ◌<◌, ◌≤◌, Bool, true, false, List}
use Rattle.std.proofs.Common.{refl, ap, sym, ◌∙◌, subst, arith}
use Rattle.std.proofs.Math.Nat.{mul-le-mul_left}
use Rattle.ick_code.specs.meaning.State.{State}
use Rattle.ick_code.specs.meaning.Move.{Asking, plain, choice, ended}
use Rattle.ick_outcomes.specs.Programs.{ask, advance, Program, after_steps, IsPlain}
use Rattle.ick_outcomes.proofs.ProgramRuns.{chance_between}
use Rattle.ick_chain.specs.declared.chain.Edge.{Edge}
use Rattle.ick_chain.specs.declared.chain.Fork.{Fork}
use Rattle.ick_chain.specs.declared.chain.Node.{Node}
use Rattle.ick_chain.specs.declared.chain.Node.TheVariants.{Goes, Stuck}
use Rattle.ick_chain.specs.Limits.{Test, ended_weight, going_weight, mean_steps, steps_on}
use Rattle.ick_chain.specs.Chains.{Leads, IsFork, IsChain, IsStuck, IsClosed, out, steps_at}
use Rattle.ick_chain.proofs.LimitLaws.{ended-zero, ended-suc, ended-plain, ended-choice, going-plain, going-choice}
use Rattle.ick_chain.proofs.LimitLaws.{steps-zero, steps-suc, steps-plain, steps-choice, parts-hundred, hundred}

-- along plain steps
ended-on : (p : Program) (q : Test) (s : State) (l k : ℕ) →
    ((i : ℕ) → i < k → IsPlain p (after_steps p s i)) → ended_weight p q s l ≤ ended_weight p q (after_steps p s k) l
ended-on p q s l zero f = omega arith
ended-on p q s l (suc k) f =
    let i = ended-on p q s l k (λ i lt. f i (omega (arith, lt))) in
    let j = ended-plain p q (after_steps p s k) l (f k (omega arith)) in
    omega (arith, i, j)

going-on : (p : Program) (s : State) (l k : ℕ) →
    ((i : ℕ) → i < k → IsPlain p (after_steps p s i)) → going_weight p (after_steps p s k) l ≤ going_weight p s l
going-on p s l zero f = omega arith
going-on p s l (suc k) f =
    let i = going-on p s l k (λ i lt. f i (omega (arith, lt))) in
    let j = going-plain p (after_steps p s k) l (f k (omega arith)) in
    omega (arith, i, j)

steps-on : (p : Program) (s : State) (l k : ℕ) → ((i : ℕ) → i < k → IsPlain p (after_steps p s i)) →
    mean_steps p s l ≤ k * 100 ^ l + mean_steps p (after_steps p s k) l
steps-on p s l zero f = let e : 0 * 100 ^ l ≡ 0 = grind arith in omega (arith, e)
steps-on p s l (suc k) f =
    let i = steps-on p s l k (λ i lt. f i (omega (arith, lt))) in
    let j = steps-plain p (after_steps p s k) l (f k (omega arith)) in
    let e : suc k * 100 ^ l ≡ k * 100 ^ l + 100 ^ l = grind arith in
    omega (arith, i, j, e)

-- along an edge
pub ended-leads : (p : Program) (q : Test) (seen : ℕ → State) (s : State) (b : Bool) (e : Edge) (l : ℕ) →
    Leads p seen s b e → ended_weight p q (advance p s b) l ≤ ended_weight p q (seen e.to) l
ended-leads p q seen s b e l h =
    subst (λ t. ended_weight p q (advance p s b) l ≤ ended_weight p q t l) (sym h.runs.leads)
    (ended-on p q (advance p s b) l (e.steps - 1) h.runs.on)

pub going-leads : (p : Program) (seen : ℕ → State) (s : State) (b : Bool) (e : Edge) (l : ℕ) →
    Leads p seen s b e → going_weight p (seen e.to) l ≤ going_weight p (advance p s b) l
going-leads p seen s b e l h =
    subst (λ t. going_weight p t l ≤ going_weight p (advance p s b) l) (sym h.runs.leads)
    (going-on p (advance p s b) l (e.steps - 1) h.runs.on)

pub steps-leads : (p : Program) (seen : ℕ → State) (s : State) (b : Bool) (e : Edge) (l : ℕ) →
    Leads p seen s b e →
    100 ^ l + mean_steps p (advance p s b) l ≤ e.steps * 100 ^ l + mean_steps p (seen e.to) l
steps-leads p seen s b e l h =
    let m = 100 ^ l in
    let k = e.steps - 1 in
    let c : e.steps ≡ suc k = omega (arith, h.some) in
    let d : suc k * m ≡ k * m + m = grind arith in
    let d' = ap (λ n. n * m) c in
    let i = subst (λ t. mean_steps p (advance p s b) l ≤ k * m + mean_steps p t l) (sym h.runs.leads)
    (steps-on p (advance p s b) l k h.runs.on) in
    omega (arith, i, d, d')

-- where nothing is asked, all flows one way
out-pass : (v : ℕ → ℕ) (f : Fork) → f.chance ≡ 0 → out v f ≡ 100 * v f.zero.to
out-pass v f h =
    ap (λ c. (100 - c) * v f.zero.to + c * v f.one.to) h
    ∙ (let x = v f.one.to in let e : 0 * x ≡ 0 = grind arith in omega (arith, e))

-- at a fork
pub ended-fork : (p : Program) (q : Test) (seen : ℕ → State) (s : State) (f : Fork) (l : ℕ) → IsFork p seen s f →
    100 * ended_weight p q s l ≤ out (λ i. ended_weight p q (seen i) l) f
ended-fork p q seen s f l (inl h) =
    let i = ended-choice p q s l f.chance h.asks in
    let j = mul-le-mul_left (100 - f.chance) (ended-leads p q seen s false f.zero l h.zero) in
    let k = mul-le-mul_left f.chance (ended-leads p q seen s true f.one l h.one) in
    omega (arith, i, j, k)
ended-fork p q seen s f l (inr h) =
    let i = ended-plain p q s l h.asks in
    let j = ended-leads p q seen s false f.zero l h.zero in
    let k = out-pass (λ i. ended_weight p q (seen i) l) f h.chance in
    omega (arith, i, j, k)

pub going-fork : (p : Program) (seen : ℕ → State) (s : State) (f : Fork) (l : ℕ) → IsFork p seen s f →
    out (λ i. going_weight p (seen i) l) f ≤ 100 * going_weight p s l
going-fork p seen s f l (inl h) =
    let i = going-choice p s l f.chance h.asks in
    let j = mul-le-mul_left (100 - f.chance) (going-leads p seen s false f.zero l h.zero) in
    let k = mul-le-mul_left f.chance (going-leads p seen s true f.one l h.one) in
    omega (arith, i, j, k)
going-fork p seen s f l (inr h) =
    let i = going-plain p s l h.asks in
    let j = going-leads p seen s false f.zero l h.zero in
    let k = out-pass (λ i. going_weight p (seen i) l) f h.chance in
    omega (arith, i, j, k)

steps-pass : (f : Fork) → f.chance ≡ 0 → steps_at (Goes f) ≡ 100 * f.zero.steps
steps-pass f h =
    ap (λ c. (100 - c) * f.zero.steps + c * f.one.steps) h
    ∙ (let x = f.one.steps in let e : 0 * x ≡ 0 = grind arith in omega (arith, e))

pub steps-fork : (p : Program) (seen : ℕ → State) (s : State) (f : Fork) (l : ℕ) → IsFork p seen s f →
    100 * mean_steps p s l ≤ steps_at (Goes f) * 100 ^ l + out (λ i. mean_steps p (seen i) l) f
steps-fork p seen s f l (inl h) =
    let m = 100 ^ l in
    let c = f.chance in
    let a = 100 - c in
    let b = chance_between p s c h.asks in
    let w = parts-hundred c m b.1 in
    let i = steps-choice p s l c h.asks in
    let x = f.zero.steps in
    let y = f.one.steps in
    let t = mean_steps p (advance p s false) l in
    let u = mean_steps p (advance p s true) l in
    let t' = mean_steps p (seen f.zero.to) l in
    let u' = mean_steps p (seen f.one.to) l in
    let j : a * (m + t) ≤ a * (x * m + t') = mul-le-mul_left a (steps-leads p seen s false f.zero l h.zero) in
    let k : c * (m + u) ≤ c * (y * m + u') = mul-le-mul_left c (steps-leads p seen s true f.one l h.one) in
    let j' : a * (m + t) ≡ a * m + a * t = grind arith in
    let k' : c * (m + u) ≡ c * m + c * u = grind arith in
    let d : a * (x * m + t') + c * (y * m + u') ≡ (a * x + c * y) * m + (a * t' + c * u') = grind arith in
    omega (arith, i, j, k, j', k', d, w)
steps-fork p seen s f l (inr h) =
    let m = 100 ^ l in
    let x = f.zero.steps in
    let i = steps-plain p s l h.asks in
    let j = steps-leads p seen s false f.zero l h.zero in
    let k = out-pass (λ i. mean_steps p (seen i) l) f h.chance in
    let e = ap (λ n. n * m) (steps-pass f h.chance) in
    let d : 100 * x * m ≡ 100 * (x * m) = grind arith in
    omega (arith, i, j, k, e, d)

-- runs from a stuck node never end
at-most-none : (n : ℕ) → n ≤ 0 → n ≡ 0
at-most-none n h = omega (arith, h)

none-mixed : (a b x y : ℕ) → x ≡ 0 → y ≡ 0 → a * x + b * y ≡ 0
none-mixed a b x y h k = ap (λ z. a * z + b * y) h ∙ (ap (λ z. a * 0 + b * z) k ∙ (let e : a * 0 + b * 0 ≡ 0 = grind arith in e))

stuck-start : (p : Program) (q : Test) (seen : ℕ → State) (s : State) (f : Fork) → IsFork p seen s f →
    ended_weight p q s 0 ≡ 0
stuck-start p q seen s f (inl h) = ended-zero p q s (choice f.chance) h.asks
stuck-start p q seen s f (inr h) = ended-zero p q s plain h.asks

stuck-step : (p : Program) (q : Test) (seen : ℕ → State) (s : State) (f : Fork) (l : ℕ) → IsFork p seen s f →
    ended_weight p q (seen f.zero.to) l ≡ 0 → ended_weight p q (seen f.one.to) l ≡ 0 →
    ended_weight p q s (suc l) ≡ 0
stuck-step p q seen s f l (inl h) z o =
    let i = ended-leads p q seen s false f.zero l h.zero in
    let j = ended-leads p q seen s true f.one l h.one in
    let x = ended_weight p q (advance p s false) l in
    let y = ended_weight p q (advance p s true) l in
    ended-suc p q s l (choice f.chance) h.asks
    ∙ none-mixed (100 - f.chance) f.chance x y (omega (arith, i, z)) (omega (arith, j, o))
stuck-step p q seen s f l (inr h) z o =
    let i = ended-leads p q seen s false f.zero l h.zero in
    let k = ended-suc p q s l plain h.asks in
    omega (arith, i, z, k)

pub stuck-none : (p : Program) (q : Test) (seen : ℕ → State) (nodes : List Node) → IsChain p seen nodes →
    IsClosed nodes → (l i : ℕ) → IsStuck nodes i → ended_weight p q (seen i) l ≡ 0
stuck-none p q seen nodes h c zero i s = stuck-start p q seen (seen i) s.0 (h i (Stuck s.0) s.1)
stuck-none p q seen nodes h c (suc l) i s =
    let to = c i s.0 s.1 in
    stuck-step p q seen (seen i) s.0 l (h i (Stuck s.0) s.1)
    (stuck-none p q seen nodes h c l s.0.zero.to to.zero) (stuck-none p q seen nodes h c l s.0.one.to to.one)

-- a run makes no more steps than the limit
steps-most-on : (p : Program) (s : State) (a : Asking) → ask p s ≡ a → (l : ℕ) (r : Bool → ℕ) →
    ((b : Bool) → r b ≤ l * 100 ^ l) → steps_on a l r ≤ suc l * 100 ^ suc l
steps-most-on p s (ended e) h l r f = omega arith
steps-most-on p s plain h l r f =
    let m = 100 ^ l in
    let i = f false in
    let e = hundred l in
    let d : suc l * (100 * m) ≡ 100 * m + 100 * (l * m) = grind arith in
    subst (λ z. z + 100 * r false ≤ suc l * z) (sym e) (omega (arith, i, d))
steps-most-on p s (choice c) h l r f =
    let m = 100 ^ l in
    let b = chance_between p s c h in
    let a = 100 - c in
    let w = parts-hundred c (l * m) b.1 in
    let i = mul-le-mul_left a (f false) in
    let j = mul-le-mul_left c (f true) in
    let e = hundred l in
    let d : suc l * (100 * m) ≡ 100 * m + 100 * (l * m) = grind arith in
    subst (λ z. z + (a * r false + c * r true) ≤ suc l * z) (sym e) (omega (arith, i, j, d, w))

pub steps-most : (p : Program) (s : State) (l : ℕ) → mean_steps p s l ≤ l * 100 ^ l
steps-most p s zero = let i = steps-zero p s in omega (arith, i)
steps-most p s (suc l) =
    let i = steps-suc p s l (ask p s) refl in
    let k = steps-most-on p s (ask p s) refl l (λ b. mean_steps p (advance p s b) l)
    (λ b. steps-most p (advance p s b) l) in
    subst (λ z. z ≤ suc l * 100 ^ suc l) (sym i) k
