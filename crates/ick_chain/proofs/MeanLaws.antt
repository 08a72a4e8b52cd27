-- Proves that mean numbers of steps that fit a chain without stuck nodes are exact.
use Prim.Native.Nat.{zero, suc}
use Rattle.std.proofs.Common.{◌≡◌, inl, inr, ℕ, ◌+◌, ◌*◌, ◌-◌, ◌^◌, ◌<◌, ◌≤◌, true, false, List, Some}
use Rattle.std.proofs.Common.{slice_get, refl, ap, sym, ◌∙◌, subst, arith}
use Rattle.std.proofs.Math.Nat.{mul-le-mul_left}
use Rattle.ick_code.specs.meaning.State.{State, Ending}
use Rattle.ick_code.specs.meaning.Move.{plain, choice, ended}
use Rattle.ick_outcomes.specs.Programs.{ask, advance, Program, after_steps, IsPlain, RunsOn}
use Rattle.ick_outcomes.proofs.ProgramRuns.{chance_between}
use Rattle.ick_chain.specs.declared.chain.Fork.{Fork}
use Rattle.ick_chain.specs.declared.chain.Node.{Node}
use Rattle.ick_chain.specs.declared.chain.Node.TheVariants.{Ends, Goes, Stuck}
use Rattle.ick_chain.specs.Limits.{going_weight, mean_steps}
use Rattle.ick_chain.specs.Chains.{IsFork, IsNode, IsChain, out, steps_at}
use Rattle.ick_chain.specs.Means.{AreMeans, IsPinned, IsBounded, AreBounded}
use Rattle.ick_chain.proofs.LimitLaws.{going-zero, going-suc, steps-zero, steps-suc, hundred, parts-hundred}

after-shift : (p : Program) (s : State) (k : ℕ) → after_steps p s (suc k) ≡ after_steps p (advance p s false) k
after-shift p s zero = refl
after-shift p s (suc k) = ap (λ t. advance p t false) (after-shift p s k)

runs-shift : (p : Program) (s t : State) (k : ℕ) → RunsOn p s (suc k) t → RunsOn p (advance p s false) k t
runs-shift p s t k r = record {
  leads = r.leads ∙ after-shift p s k;
  on = λ i lt. subst (λ z. IsPlain p z) (after-shift p s i) (r.on (suc i) (omega (arith, lt)));
}

-- one step, where nothing is asked
pinned-plain : (p : Program) (d most x y : ℕ) (s : State) (l : ℕ) → ask p s ≡ plain → x ≡ y + d →
    IsPinned p d most (advance p s false) y l → IsPinned p d most s x (suc l)
pinned-plain p d most x y s l h e i =
    let m = 100 ^ l in
    let t = mean_steps p (advance p s false) l in
    let g = going_weight p (advance p s false) l in
    let a = i.above in
    let b = i.below in
    let n = hundred l in
    let j = steps-suc p s l plain h in
    let k = going-suc p s l plain h in
    let d1 : d * (100 * m + 100 * t) ≡ 100 * (d * m) + 100 * (d * t) = grind arith in
    let d2 : (y + d) * (100 * m) ≡ 100 * (y * m) + 100 * (d * m) = grind arith in
    let d3 : most * (100 * g) ≡ 100 * (most * g) = grind arith in
    let t' : mean_steps p s (suc l) ≡ 100 * m + 100 * t = j ∙ ap (λ z. z + 100 * t) n in
    let dt : d * mean_steps p s (suc l) ≡ d * (100 * m + 100 * t) = ap (λ z. d * z) t' in
    let mg : most * going_weight p s (suc l) ≡ most * (100 * g) = ap (λ z. most * z) k in
    let xm : x * 100 ^ suc l ≡ (y + d) * (100 * m) = ap (λ z. z * 100 ^ suc l) e ∙ ap (λ z. (y + d) * z) n in
    record { above = omega (arith, a, d1, d2, dt, xm); below = omega (arith, b, d1, d2, d3, dt, mg, xm) }

-- one step, where a choice is asked
pinned-choice : (p : Program) (d most x y z : ℕ) (s : State) (l c : ℕ) → ask p s ≡ choice c →
    100 * x ≡ 100 * d + ((100 - c) * y + c * z) →
    IsPinned p d most (advance p s false) y l → IsPinned p d most (advance p s true) z l →
    IsPinned p d most s x (suc l)
pinned-choice p d most x y z s l c h e u v =
    let m = 100 ^ l in
    let b = 100 - c in
    let t = mean_steps p (advance p s false) l in
    let g = going_weight p (advance p s false) l in
    let t' = mean_steps p (advance p s true) l in
    let g' = going_weight p (advance p s true) l in
    let n = hundred l in
    let ua = mul-le-mul_left b u.above in
    let va = mul-le-mul_left c v.above in
    let ub = mul-le-mul_left b u.below in
    let vb = mul-le-mul_left c v.below in
    let j : mean_steps p s (suc l) ≡ 100 * m + (b * t + c * t') =
    steps-suc p s l (choice c) h ∙ ap (λ z. z + (b * t + c * t')) n in
    let k : going_weight p s (suc l) ≡ b * g + c * g' = going-suc p s l (choice c) h in
    let dt : d * mean_steps p s (suc l) ≡ d * (100 * m + (b * t + c * t')) = ap (λ z. d * z) j in
    let mg : most * going_weight p s (suc l) ≡ most * (b * g + c * g') = ap (λ z. most * z) k in
    let xm : x * 100 ^ suc l ≡ 100 * x * m = ap (λ z. x * z) n ∙ (let w : x * (100 * m) ≡ 100 * x * m = grind arith in w) in
    let em : 100 * x * m ≡ (100 * d + (b * y + c * z)) * m = ap (λ w. w * m) e in
    let d1 : (100 * d + (b * y + c * z)) * m ≡ 100 * (d * m) + (b * (y * m) + c * (z * m)) = grind arith in
    let d2 : d * (100 * m + (b * t + c * t')) ≡ 100 * (d * m) + (b * (d * t) + c * (d * t')) = grind arith in
    let d3 : most * (b * g + c * g') ≡ b * (most * g) + c * (most * g') = grind arith in
    let d4 : b * (d * t + most * g) ≡ b * (d * t) + b * (most * g) = grind arith in
    let d5 : c * (d * t' + most * g') ≡ c * (d * t') + c * (most * g') = grind arith in
    record {
      above = omega (arith, ua, va, dt, xm, em, d1, d2);
      below = omega (arith, ub, vb, dt, mg, xm, em, d1, d2, d3, d4, d5);
    }

ended-pinned : (p : Program) (d most : ℕ) (s : State) (a : Ending) (l : ℕ) → ask p s ≡ ended a → IsPinned p d most s 0 l
ended-pinned p d most s a l h =
    let t = by_limit l in
    let z : 0 * 100 ^ l ≡ 0 = grind arith in
    let y : d * 0 ≡ 0 = grind arith in
    let k = ap (λ n. d * n) t in
    record { above = omega (arith, k, y, z); below = omega (arith, z) }
  where
    by_limit : (l : ℕ) → mean_steps p s l ≡ 0
    by_limit zero = steps-zero p s
    by_limit (suc l) = steps-suc p s l (ended a) h

-- at the limit
going-pinned : (p : Program) (d most x : ℕ) (s : State) → x ≤ most → going_weight p s 0 ≡ 1 → IsPinned p d most s x 0
going-pinned p d most x s le h =
    let t = steps-zero p s in
    let k = ap (λ n. d * n) t in
    let g = ap (λ n. most * n) h in
    let y : d * 0 ≡ 0 = grind arith in
    let z : x * 100 ^ 0 ≡ x = omega arith in
    let w : most * 1 ≡ most = omega arith in
    record { above = omega (arith, k, y); below = omega (arith, le, g, z, w) }

fork-going : (p : Program) (seen : ℕ → State) (s : State) (f : Fork) → IsFork p seen s f → going_weight p s 0 ≡ 1
fork-going p seen s f (inl h) = going-zero p s (choice f.chance) h.asks
fork-going p seen s f (inr h) = going-zero p s plain h.asks

-- the mean behind an edge has one step less
edge-mean : (x k d : ℕ) → 0 < k → x + k * d ≡ x + (k - 1) * d + d
edge-mean x k d h =
    let c : k ≡ suc (k - 1) = omega (arith, h) in
    let n = k - 1 in
    let e : suc n * d ≡ n * d + d = grind arith in
    let f = ap (λ z. z * d) c in
    omega (arith, e, f)

module _ (p : Program) (seen : ℕ → State) (nodes : List Node) (h : IsChain p seen nodes) (d most : ℕ) (e : ℕ → ℕ)
    (m : AreMeans nodes d e) (b : AreBounded nodes d most e) where
  start : (node : Node) (at steps x : ℕ) (s : State) → slice_get nodes at ≡ Some node →
      RunsOn p s steps (seen at) → x ≡ e at + steps * d → x ≤ most → IsPinned p d most s x 0
  start node at (suc k) x s g r c le = going-pinned p d most x s le (going-zero p s plain (r.on 0 (omega arith)))
  start Ends at zero x s g r c le =
      let a = subst (λ z. IsNode p seen z Ends) r.leads (h at Ends g) in
      let w : 0 * d ≡ 0 = grind arith in
      let o = m at Ends g in
      let n : x ≡ 0 = omega (arith, c, w, o) in
      subst (λ z. IsPinned p d most s z 0) (sym n) (ended-pinned p d most s a.0 0 a.1)
  start (Goes f) at zero x s g r c le =
      going-pinned p d most x s le (fork-going p seen s f (subst (λ z. IsFork p seen z f) r.leads (h at (Goes f) g)))
  start (Stuck f) at zero x s g r c le = absurd (m at (Stuck f) g)

  -- a fork, if all is pinned with one step less
  fork : (l : ℕ) (f : Fork) (x : ℕ) (s : State) → IsFork p seen s f → IsBounded nodes d most e f →
      100 * x ≡ d * steps_at (Goes f) + out e f →
      ((node : Node) (at steps x : ℕ) (s : State) → slice_get nodes at ≡ Some node →
      RunsOn p s steps (seen at) → x ≡ e at + steps * d → x ≤ most → IsPinned p d most s x l) →
      IsPinned p d most s x (suc l)
  fork l f x s (inl k) i c rest =
      let y = e f.zero.to + (f.zero.steps - 1) * d in
      let z = e f.one.to + (f.one.steps - 1) * d in
      let ey = edge-mean (e f.zero.to) f.zero.steps d k.zero.some in
      let ez = edge-mean (e f.one.to) f.one.steps d k.one.some in
      let a = 100 - f.chance in
      let o = f.chance in
      let u = e f.zero.to in
      let v = e f.one.to in
      let ku = f.zero.steps in
      let kv = f.one.steps in
      let w = parts-hundred o d (chance_between p s o k.asks).1 in
      let d1 : d * (a * ku + o * kv) + (a * u + o * v) ≡ a * (u + ku * d) + o * (v + kv * d) = grind arith in
      let d2 = ap (λ n. a * n) ey in
      let d3 = ap (λ n. o * n) ez in
      let d4 : a * (y + d) ≡ a * y + a * d = grind arith in
      let d5 : o * (z + d) ≡ o * z + o * d = grind arith in
      let all : 100 * x ≡ 100 * d + (a * y + o * z) = omega (arith, c, w, d1, d2, d3, d4, d5) in
      pinned-choice p d most x y z s l o k.asks all
      (rest i.zero.0 f.zero.to (ku - 1) y (advance p s false) i.zero.1 k.zero.runs refl
      (let n = i.least_zero in omega (arith, n, ey)))
      (rest i.one.0 f.one.to (kv - 1) z (advance p s true) i.one.1 k.one.runs refl
      (let n = i.least_one in omega (arith, n, ez)))
  fork l f x s (inr k) i c rest =
      let u = e f.zero.to in
      let v = e f.one.to in
      let ku = f.zero.steps in
      let kv = f.one.steps in
      let y = u + (ku - 1) * d in
      let ey = edge-mean u ku d k.zero.some in
      let c' = ap (λ o. d * ((100 - o) * ku + o * kv) + ((100 - o) * u + o * v)) k.chance in
      let d1 : d * (100 * ku + 0 * kv) + (100 * u + 0 * v) ≡ 100 * (u + ku * d) = grind arith in
      let all : x ≡ y + d = omega (arith, c, c', d1, ey) in
      pinned-plain p d most x y s l k.asks all
      (rest i.zero.0 f.zero.to (ku - 1) y (advance p s false) i.zero.1 k.zero.runs refl
      (let n = i.least_zero in omega (arith, n, ey)))

  pub pinned : (l : ℕ) (node : Node) (at steps x : ℕ) (s : State) → slice_get nodes at ≡ Some node →
      RunsOn p s steps (seen at) → x ≡ e at + steps * d → x ≤ most → IsPinned p d most s x l
  pinned zero node at steps x s g r c le = start node at steps x s g r c le
  pinned (suc l) node at (suc k) x s g r c le =
      let w : suc k * d ≡ k * d + d = grind arith in
      let y = e at + k * d in
      let f : x ≡ y + d = omega (arith, c, w) in
      pinned-plain p d most x y s l (r.on 0 (omega arith)) f
      (pinned l node at k y (advance p s false) g (runs-shift p s (seen at) k r) refl (omega (arith, le, f)))
  pinned (suc l) Ends at zero x s g r c le =
      let a = subst (λ z. IsNode p seen z Ends) r.leads (h at Ends g) in
      let w : 0 * d ≡ 0 = grind arith in
      let o = m at Ends g in
      let n : x ≡ 0 = omega (arith, c, w, o) in
      subst (λ z. IsPinned p d most s z (suc l)) (sym n) (ended-pinned p d most s a.0 (suc l) a.1)
  pinned (suc l) (Goes f) at zero x s g r c le =
      let w : 0 * d ≡ 0 = grind arith in
      let o : x ≡ e at = omega (arith, c, w) in
      fork l f x s (subst (λ z. IsFork p seen z f) r.leads (h at (Goes f) g)) (b at f g)
      (ap (λ z. 100 * z) o ∙ m at (Goes f) g) (pinned l)
  pinned (suc l) (Stuck f) at zero x s g r c le = absurd (m at (Stuck f) g)

  -- the mean number of steps from a node, for each limit
  pub mean_pinned : (node : Node) (at l : ℕ) → slice_get nodes at ≡ Some node → e at ≤ most →
      IsPinned p d most (seen at) (e at) l
  mean_pinned node at l g le =
      pinned l node at 0 (e at) (seen at) g (record { leads = refl; on = λ i lt. absurd (let z : ⊥ = omega (arith, lt) in z) })
      (let w : 0 * d ≡ 0 = grind arith in omega (arith, w)) le
