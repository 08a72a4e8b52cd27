-- Proves how visits carry inequalities of the nodes' values to the first node.
use Prim.Native.Nat.{suc}
use Rattle.std.proofs.Common.{◌≡◌, ℕ, ◌+◌, ◌*◌, ◌-◌, ◌≤◌, Bool, true, false, List, [], ◌∷◌, Some}
use Rattle.std.proofs.Common.{length, slice_get, refl, ap, arith}
use Rattle.std.proofs.Math.Nat.{mul-le-mul_left}
use Rattle.ick_chain.specs.declared.chain.Node.{Node}
use Rattle.ick_chain.specs.declared.chain.Node.TheVariants.{Ends, Goes, Stuck}
use Rattle.ick_chain.specs.Limits.{all_if}
use Rattle.ick_chain.specs.Chains.{dot, out, out_of, poured, AreVisits, passing_at, passing, stuck_at, never}
use Rattle.ick_chain.specs.Chains.{steps_at, all_steps, negate}

-- a node's value is at most that of its state if it ends there, and of what flows on from it
abbrev pub EndsAtMost : (v : ℕ → ℕ) (m : ℕ) (b : Bool) (x : ℕ) → Node → Type 0
EndsAtMost v m b x Ends = x ≤ all_if b m
EndsAtMost v m b x (Goes f) = 100 * x ≤ out v f
EndsAtMost v m b x (Stuck f) = x ≡ 0

abbrev pub AllEndAtMost : (v : ℕ → ℕ) (m : ℕ) (q : ℕ → Bool) (u : ℕ → ℕ) → List Node → Type 0
AllEndAtMost v m q u ns = (i : ℕ) (n : Node) → slice_get ns i ≡ Some n → EndsAtMost v m (q i) (u i) n

times-if : (b : Bool) (y m : ℕ) → y * all_if b m ≡ all_if b y * m
times-if true y m = refl
times-if false y m = let e : y * 0 ≡ 0 * m = grind arith in e

ended-one : (v : ℕ → ℕ) (m : ℕ) (b : Bool) (x y : ℕ) (n : Node) → EndsAtMost v m b x n →
    100 * (y * x) ≤ y * out_of v n + 100 * (passing_at b y n * m)
ended-one v m b x y Ends h =
    let i = mul-le-mul_left y h in
    let e = times-if b y m in
    let z : y * 0 ≡ 0 = grind arith in
    omega (arith, i, e, z)
ended-one v m b x y (Goes f) h =
    let i = mul-le-mul_left y h in
    let e : y * (100 * x) ≡ 100 * (y * x) = grind arith in
    let z : 0 * m ≡ 0 = grind arith in
    omega (arith, i, e, z)
ended-one v m b x y (Stuck f) h =
    let e : y * 0 ≡ 0 = grind arith in
    let i = ap (λ z. y * z) h in
    omega (arith, i, e)

ended-sum : (v : ℕ → ℕ) (m : ℕ) (q : ℕ → Bool) (u : ℕ → ℕ) (ns : List Node) (ys : List ℕ) → length ys ≡ length ns →
    AllEndAtMost v m q u ns → 100 * dot u ys ≤ poured v ns ys + 100 * (passing q ns ys * m)
ended-sum v m q u [] [] e h = omega arith
ended-sum v m q u [] (y ∷ ys) e h = let z : suc (length ys) ≡ 0 = e in cc
ended-sum v m q u (n ∷ ns) [] e h = omega arith
ended-sum v m q u (n ∷ ns) (y ∷ ys) e h =
    let i = ended-sum v m (λ i. q (suc i)) (λ i. u (suc i)) ns ys (omega (arith, e)) (λ i. h (suc i)) in
    let j = ended-one v m (q 0) (u 0) y n (h 0 n refl) in
    let a = passing_at (q 0) y n in
    let b = passing (λ i. q (suc i)) ns ys in
    let d : (a + b) * m ≡ a * m + b * m = grind arith in
    omega (arith, i, j, d)

-- a node's value is at least what flows on from it, or m if it is stuck
abbrev pub GoesAtLeast : (v : ℕ → ℕ) (m : ℕ) (x : ℕ) → Node → Type 0
GoesAtLeast v m x Ends = Unit {0}
GoesAtLeast v m x (Goes f) = out v f ≤ 100 * x
GoesAtLeast v m x (Stuck f) = m ≤ x

abbrev pub AllGoAtLeast : (v : ℕ → ℕ) (m : ℕ) (u : ℕ → ℕ) → List Node → Type 0
AllGoAtLeast v m u ns = (i : ℕ) (n : Node) → slice_get ns i ≡ Some n → GoesAtLeast v m (u i) n

going-one : (v : ℕ → ℕ) (m x y : ℕ) (n : Node) → GoesAtLeast v m x n →
    y * out_of v n + 100 * (stuck_at y n * m) ≤ 100 * (y * x)
going-one v m x y Ends h =
    let z : y * 0 ≡ 0 = grind arith in let w : 0 * m ≡ 0 = grind arith in omega (arith, z, w)
going-one v m x y (Goes f) h =
    let i = mul-le-mul_left y h in
    let e : y * (100 * x) ≡ 100 * (y * x) = grind arith in
    let w : 0 * m ≡ 0 = grind arith in
    omega (arith, i, e, w)
going-one v m x y (Stuck f) h =
    let i = mul-le-mul_left y h in let z : y * 0 ≡ 0 = grind arith in omega (arith, i, z)

going-sum : (v : ℕ → ℕ) (m : ℕ) (u : ℕ → ℕ) (ns : List Node) (ys : List ℕ) → length ys ≡ length ns →
    AllGoAtLeast v m u ns → poured v ns ys + 100 * (never ns ys * m) ≤ 100 * dot u ys
going-sum v m u [] ys e h = let w : 0 * m ≡ 0 = grind arith in omega (arith, w)
going-sum v m u (n ∷ ns) [] e h = let w : 0 * m ≡ 0 = grind arith in omega (arith, w)
going-sum v m u (n ∷ ns) (y ∷ ys) e h =
    let i = going-sum v m (λ i. u (suc i)) ns ys (omega (arith, e)) (λ i. h (suc i)) in
    let j = going-one v m (u 0) y n (h 0 n refl) in
    let a = stuck_at y n in
    let b = never ns ys in
    let d : (a + b) * m ≡ a * m + b * m = grind arith in
    omega (arith, i, j, d)

-- a node's value is at most its steps and what flows on from it, or k if it is stuck
abbrev pub StepsAtMost : (v : ℕ → ℕ) (m k : ℕ) (x : ℕ) → Node → Type 0
StepsAtMost v m k x Ends = x ≡ 0
StepsAtMost v m k x (Goes f) = 100 * x ≤ steps_at (Goes f) * m + out v f
StepsAtMost v m k x (Stuck f) = x ≤ k * m

abbrev pub AllStepAtMost : (v : ℕ → ℕ) (m k : ℕ) (u : ℕ → ℕ) → List Node → Type 0
AllStepAtMost v m k u ns = (i : ℕ) (n : Node) → slice_get ns i ≡ Some n → StepsAtMost v m k (u i) n

steps-one : (v : ℕ → ℕ) (m k x y : ℕ) (n : Node) → StepsAtMost v m k x n →
    100 * (y * x) ≤ y * out_of v n + (y * steps_at n + 100 * (k * stuck_at y n)) * m
steps-one v m k x y Ends h =
    let i = ap (λ z. y * z) h in let z : y * 0 ≡ 0 = grind arith in omega (arith, i, z)
steps-one v m k x y (Goes f) h =
    let a = steps_at (Goes f) in
    let b = out v f in
    let i : y * (100 * x) ≤ y * (a * m + b) = mul-le-mul_left y h in
    let d : y * (a * m + b) ≡ y * b + (y * a + 100 * (k * 0)) * m = grind arith in
    let e : y * (100 * x) ≡ 100 * (y * x) = grind arith in
    omega (arith, i, d, e)
steps-one v m k x y (Stuck f) h =
    let i = mul-le-mul_left y h in
    let d : 100 * (y * (k * m)) ≡ y * 0 + (y * 0 + 100 * (k * y)) * m = grind arith in
    omega (arith, i, d)

steps-sum : (v : ℕ → ℕ) (m k : ℕ) (u : ℕ → ℕ) (ns : List Node) (ys : List ℕ) → length ys ≡ length ns →
    AllStepAtMost v m k u ns → 100 * dot u ys ≤ poured v ns ys + (all_steps ns ys + 100 * (k * never ns ys)) * m
steps-sum v m k u [] [] e h = omega arith
steps-sum v m k u [] (y ∷ ys) e h = let z : suc (length ys) ≡ 0 = e in cc
steps-sum v m k u (n ∷ ns) [] e h = omega arith
steps-sum v m k u (n ∷ ns) (y ∷ ys) e h =
    let i = steps-sum v m k (λ i. u (suc i)) ns ys (omega (arith, e)) (λ i. h (suc i)) in
    let j = steps-one v m k (u 0) y n (h 0 n refl) in
    let a = y * steps_at n in
    let b = stuck_at y n in
    let c = all_steps ns ys in
    let w = never ns ys in
    let d : (a + c + 100 * (k * (b + w))) * m ≡ (a + 100 * (k * b)) * m + (c + 100 * (k * w)) * m = grind arith in
    omega (arith, i, j, d)

-- all visits of nodes that go on flow on
abbrev pub IsPart : Node → Type 0
IsPart Ends = Unit {0}
IsPart (Goes f) = f.chance ≤ 100
IsPart (Stuck f) = Unit {0}

both-if : (b : Bool) (n : ℕ) → all_if b n + all_if (negate b) n ≡ n
both-if true n = let e : n + 0 ≡ n = omega arith in e
both-if false n = let e : 0 + n ≡ n = omega arith in e

unit-one : (b : Bool) (y : ℕ) (n : Node) → IsPart n →
    100 * (y * 1) ≡ y * out_of (λ i. 1) n + 100 * (passing_at b y n + passing_at (negate b) y n + stuck_at y n)
unit-one b y Ends h = let z : y * 0 ≡ 0 = grind arith in let e = both-if b y in omega (arith, z, e)
unit-one b y (Goes f) h =
    let c = f.chance in
    let e : (100 - c) * 1 + c * 1 ≡ 100 = omega (arith, h) in
    let i = ap (λ z. y * z) e in
    omega (arith, i)
unit-one b y (Stuck f) h = let z : y * 0 ≡ 0 = grind arith in omega (arith, z)

unit-sum : (q : ℕ → Bool) (ns : List Node) (ys : List ℕ) → length ys ≡ length ns →
    ((i : ℕ) (n : Node) → slice_get ns i ≡ Some n → IsPart n) →
    100 * dot (λ i. 1) ys
    ≡ poured (λ i. 1) ns ys + 100 * (passing q ns ys + passing (λ i. negate (q i)) ns ys + never ns ys)
unit-sum q [] [] e h = refl
unit-sum q [] (y ∷ ys) e h = let z : suc (length ys) ≡ 0 = e in cc
unit-sum q (n ∷ ns) [] e h = refl
unit-sum q (n ∷ ns) (y ∷ ys) e h =
    let i = unit-sum (λ i. q (suc i)) ns ys (omega (arith, e)) (λ i. h (suc i)) in
    let j = unit-one (q 0) y n (h 0 n refl) in
    omega (arith, i, j)

module _ (nodes : List Node) (first parts : ℕ) (visits : List ℕ) (a : AreVisits nodes first parts visits) where
  pub ended-flow : (u : ℕ → ℕ) (m : ℕ) (q : ℕ → Bool) → AllEndAtMost u m q u nodes →
      parts * u first ≤ passing q nodes visits * m
  ended-flow u m q h =
      let i = ended-sum u m q u nodes visits a.long h in let j = a.flows u in omega (arith, i, j)

  pub going-flow : (u : ℕ → ℕ) (m : ℕ) → AllGoAtLeast u m u nodes → never nodes visits * m ≤ parts * u first
  going-flow u m h =
      let i = going-sum u m u nodes visits a.long h in let j = a.flows u in omega (arith, i, j)

  pub steps-flow : (u : ℕ → ℕ) (m k : ℕ) → AllStepAtMost u m k u nodes →
      100 * (parts * u first) ≤ (all_steps nodes visits + 100 * (k * never nodes visits)) * m
  steps-flow u m k h =
      let i = steps-sum u m k u nodes visits a.long h in let j = a.flows u in omega (arith, i, j)

  pub unit-flow : (q : ℕ → Bool) → ((i : ℕ) (n : Node) → slice_get nodes i ≡ Some n → IsPart n) →
      passing q nodes visits + passing (λ i. negate (q i)) nodes visits + never nodes visits ≡ parts
  unit-flow q h =
      let i = unit-sum q nodes visits a.long h in let j = a.flows (λ i. 1) in
      let e : parts * 1 ≡ parts = omega arith in omega (arith, i, j, e)
