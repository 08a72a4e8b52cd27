-- Proves that the counts of nodes with grades are numbers of runs, from some limit on.
use Prim.Native.Nat.{zero, suc}
use Rattle.std.proofs.Common.{◌≡◌, ◌⊎◌, inl, inr, ℕ, ◌+◌, ◌*◌, ◌-◌, ◌≤◌, Bool, true, false, List, [], ◌∷◌}
use Rattle.std.proofs.Common.{Option, Some, None, length, slice_get, slice_index_or, refl, ap, sym, ◌∙◌, subst, arith}
use Rattle.std.proofs.Math.Nat.{mul-le-mul_left}
use Rattle.ick_code.specs.meaning.State.{State}
use Rattle.ick_outcomes.specs.Programs.{Program}
use Rattle.ick_outcomes.specs.Tallies.{Test as OutcomeTest}
use Rattle.ick_chain.specs.declared.chain.Fork.{Fork}
use Rattle.ick_chain.specs.declared.chain.Node.{Node}
use Rattle.ick_chain.specs.declared.chain.Node.TheVariants.{Ends, Goes, Stuck}
use Rattle.ick_chain.specs.Chains.{dot, passing, passing_at, IsChain, IsClosed, IsStuck}
use Rattle.ick_chain.specs.Counts.{along, along_of, handed, AreCounts, AreGraded, CountsRuns, IsEdgeGraded, IsLower}
use Rattle.ick_chain.specs.Limits.{all_if}
use Rattle.ick_chain.specs.Tallied.{IsOfEnded, of_states}
use Rattle.ick_chain.proofs.CountLaws.{count, count-ended, count-mono, fork-above, fork-below, fork-suc, fork-zero}
use Rattle.ick_chain.proofs.Pouring.{got_below}
use Rattle.ick_chain.proofs.RowLaws.{got_at}

along-zero : (u : ℕ → ℕ) (c : ℕ) (f : Fork) → u f.zero.to ≡ 0 → u f.one.to ≡ 0 → along u c f ≡ 0
along-zero u zero f a b = a
along-zero u (suc c) f a b = omega (arith, a, b)

times-one : (b : Bool) (y : ℕ) → y * all_if b 1 ≡ all_if b y
times-one true y = grind arith
times-one false y = grind arith

-- a node's value is that of its state if it ends there, and at most that of the nodes behind it
abbrev IsAtMost : (v : ℕ → ℕ) (b : Bool) (x : ℕ) → Node → Type 0
IsAtMost v b x Ends = x ≡ all_if b 1
IsAtMost v b x (Goes f) = x ≤ along v f.chance f
IsAtMost v b x (Stuck f) = x ≡ 0

most-one : (v : ℕ → ℕ) (b : Bool) (x y : ℕ) (n : Node) → IsAtMost v b x n →
    y * x ≤ y * along_of v n + passing_at b y n
most-one v b x y Ends h =
    let e = ap (λ z. y * z) h in let t = times-one b y in let z : y * 0 ≡ 0 = grind arith in omega (arith, e, t, z)
most-one v b x y (Goes f) h = let i = mul-le-mul_left y h in omega (arith, i)
most-one v b x y (Stuck f) h =
    let e = ap (λ z. y * z) h in let z : y * 0 ≡ 0 = grind arith in omega (arith, e, z)

most-sum : (v : ℕ → ℕ) (q : ℕ → Bool) (u : ℕ → ℕ) (ns : List Node) (ys : List ℕ) → length ys ≡ length ns →
    ((i : ℕ) (n : Node) → slice_get ns i ≡ Some n → IsAtMost v (q i) (u i) n) →
    dot u ys ≤ handed v ns ys + passing q ns ys
most-sum v q u [] [] e h = omega arith
most-sum v q u [] (y ∷ ys) e h = let z : suc (length ys) ≡ 0 = e in cc
most-sum v q u (n ∷ ns) [] e h = omega arith
most-sum v q u (n ∷ ns) (y ∷ ys) e h =
    let i = most-sum v (λ i. q (suc i)) (λ i. u (suc i)) ns ys (omega (arith, e)) (λ i. h (suc i)) in
    let j = most-one v (q 0) (u 0) y n (h 0 n refl) in
    omega (arith, i, j)

-- .. and at least
abbrev IsAtLeast : (v : ℕ → ℕ) (b : Bool) (x : ℕ) → Node → Type 0
IsAtLeast v b x Ends = x ≡ all_if b 1
IsAtLeast v b x (Goes f) = along v f.chance f ≤ x
IsAtLeast v b x (Stuck f) = Unit {0}

least-one : (v : ℕ → ℕ) (b : Bool) (x y : ℕ) (n : Node) → IsAtLeast v b x n →
    y * along_of v n + passing_at b y n ≤ y * x
least-one v b x y Ends h =
    let e = ap (λ z. y * z) h in let t = times-one b y in let z : y * 0 ≡ 0 = grind arith in omega (arith, e, t, z)
least-one v b x y (Goes f) h = let i = mul-le-mul_left y h in omega (arith, i)
least-one v b x y (Stuck f) h = let z : y * 0 ≡ 0 = grind arith in omega (arith, z)

least-sum : (v : ℕ → ℕ) (q : ℕ → Bool) (u : ℕ → ℕ) (ns : List Node) (ys : List ℕ) →
    ((i : ℕ) (n : Node) → slice_get ns i ≡ Some n → IsAtLeast v (q i) (u i) n) →
    handed v ns ys + passing q ns ys ≤ dot u ys
least-sum v q u [] ys h = omega arith
least-sum v q u (n ∷ ns) [] h = omega arith
least-sum v q u (n ∷ ns) (y ∷ ys) h =
    let i = least-sum v (λ i. q (suc i)) (λ i. u (suc i)) ns ys (λ i. h (suc i)) in
    let j = least-one v (q 0) (u 0) y n (h 0 n refl) in
    omega (arith, i, j)

-- more steps than an edge has, and a grade that none is above
steps-of : Node → ℕ
steps-of Ends = 0
steps-of (Goes f) = f.zero.steps + f.one.steps
steps-of (Stuck f) = 0

all-steps : List Node → ℕ
all-steps [] = 0
all-steps (n ∷ ns) = steps-of n + all-steps ns

steps-within : (ns : List Node) (i : ℕ) (f : Fork) → slice_get ns i ≡ Some (Goes f) →
    (f.zero.steps ≤ all-steps ns) × (f.one.steps ≤ all-steps ns)
unfolding all-steps steps-of
steps-within [] i f h = let z : None ≡ Some (Goes f) = h in cc
steps-within (n ∷ ns) zero f h =
    let e : n ≡ Goes f = cc in let k : steps-of n ≡ f.zero.steps + f.one.steps = ap steps-of e in
    (omega (arith, k), omega (arith, k))
steps-within (n ∷ ns) (suc i) f h =
    let k = steps-within ns i f h in let a = k.0 in let b = k.1 in (omega (arith, a), omega (arith, b))

grade-of : Option ℕ → ℕ
grade-of None = 0
grade-of (Some g) = g

all-grades : List (Option ℕ) → ℕ
all-grades [] = 0
all-grades (g ∷ gs) = grade-of g + all-grades gs

grade-within : (gs : List (Option ℕ)) (i g : ℕ) → slice_get gs i ≡ Some (Some g) → g ≤ all-grades gs
unfolding all-grades grade-of
grade-within [] i g h = let z : None ≡ Some (Some g) = h in cc
grade-within (x ∷ gs) zero g h =
    let e : x ≡ Some g = cc in let k : grade-of x ≡ g = ap grade-of e in omega (arith, k)
grade-within (x ∷ gs) (suc i) g h = let k = grade-within gs i g h in omega (arith, k)

-- the steps that are left at a node: fewer, the greater its grade is
left-by : ℕ → ℕ → Option (Option ℕ) → ℕ
left-by k l None = 0
left-by k l (Some None) = 0
left-by k l (Some (Some g)) = l - k * g

module _ (p : Program) (seen : ℕ → State) (nodes : List Node) (chain : IsChain p seen nodes) (closed : IsClosed nodes)
    (grades : List (Option ℕ)) (graded : AreGraded nodes grades) (q : OutcomeTest) (k : IsOfEnded q)
    (ends : (i : ℕ) → slice_get nodes i ≡ Some Ends → slice_get grades i ≡ Some None →
    of_states q (seen i) ≡ false) (long : length grades ≡ length nodes) where
  node-at : (i : ℕ) (g : Option ℕ) → slice_get grades i ≡ Some g → (n : Node) × (slice_get nodes i ≡ Some n)
  node-at i g h =
      let lt = got_below grades i g h in
      (slice_index_or nodes i Ends, got_at nodes i Ends (omega (arith, lt, long)))

  none-behind : (h : Option ℕ) → IsLower None h → h ≡ None
  none-behind None l = refl
  none-behind (Some x) l = absurd l

  -- no run that passes leads through a node without a grade, or a stuck one
  barren : (l i : ℕ) (n : Node) → slice_get nodes i ≡ Some n →
      (slice_get grades i ≡ Some None) ⊎ IsStuck nodes i → count p q (seen i) l ≡ 0
  barren l i Ends e (inl g) =
      let x = chain i Ends e in
      count-ended p q k (seen i) x.0 l x.1 ∙ ap (λ b. all_if b 1) (ends i e g)
  barren l i Ends e (inr s) = let z : Some Ends ≡ Some (Stuck s.0) = sym e ∙ s.1 in cc
  barren zero i (Goes f) e o = fork-zero p q k seen (seen i) f (chain i (Goes f) e)
  barren (suc l) i (Goes f) e (inl g) =
      let x = graded i f None e g in
      let a = x.zero in let b = x.one in
      let ga : slice_get grades f.zero.to ≡ Some None = a.1 ∙ ap Some (none-behind a.0 a.2) in
      let gb : slice_get grades f.one.to ≡ Some None = b.1 ∙ ap Some (none-behind b.0 b.2) in
      let na = node-at f.zero.to None ga in let nb = node-at f.one.to None gb in
      let u = barren l f.zero.to na.0 na.1 (inl ga) in
      let v = barren l f.one.to nb.0 nb.1 (inl gb) in
      let y = fork-suc p q k seen (seen i) f l (chain i (Goes f) e) in
      let z = along-zero (λ j. count p q (seen j) l) f.chance f u v in
      omega (arith, y, z)
  barren (suc l) i (Goes f) e (inr s) = let z : Some (Goes f) ≡ Some (Stuck s.0) = sym e ∙ s.1 in cc
  barren zero i (Stuck f) e o = fork-zero p q k seen (seen i) f (chain i (Stuck f) e)
  barren (suc l) i (Stuck f) e o =
      let x = closed i f e in
      let a = x.zero in let b = x.one in
      let u = barren l f.zero.to (Stuck a.0) a.1 (inr a) in
      let v = barren l f.one.to (Stuck b.0) b.1 (inr b) in
      let y = fork-suc p q k seen (seen i) f l (chain i (Stuck f) e) in
      let z = along-zero (λ j. count p q (seen j) l) f.chance f u v in
      omega (arith, y, z)

  ungraded : (l i : ℕ) → slice_get grades i ≡ Some None → count p q (seen i) l ≡ 0
  ungraded l i g = let n = node-at i None g in barren l i n.0 n.1 (inl g)

  at-most : (l i : ℕ) (n : Node) → slice_get nodes i ≡ Some n →
      IsAtMost (λ j. count p q (seen j) l) (of_states q (seen i)) (count p q (seen i) l) n
  at-most l i Ends e = let x = chain i Ends e in count-ended p q k (seen i) x.0 l x.1
  at-most l i (Goes f) e = fork-below p q k seen (seen i) f l (chain i (Goes f) e)
  at-most l i (Stuck f) e = barren l i (Stuck f) e (inr (f, e))

  left : ℕ → ℕ → ℕ
  left l i = left-by (all-steps nodes) l (slice_get grades i)

  left-within : (l i : ℕ) → left l i ≤ l
  unfolding left left-by
  left-within l i = by_grade (slice_get grades i)
    where
      by_grade : (g : Option (Option ℕ)) → left-by (all-steps nodes) l g ≤ l
      by_grade None = omega arith
      by_grade (Some None) = omega arith
      by_grade (Some (Some g)) = omega arith

  left-is : (l i g : ℕ) → slice_get grades i ≡ Some (Some g) → left l i ≡ l - all-steps nodes * g
  unfolding left left-by
  left-is l i g h = ap (left-by (all-steps nodes) l) h

  -- an edge from a node with a grade uses up the steps by which fewer are left behind it
  left-edge : (l g steps to : ℕ) → steps ≤ all-steps nodes →
      all-steps nodes * all-grades grades + all-steps nodes ≤ l → g ≤ all-grades grades →
      IsEdgeGraded grades (Some g) to → steps + left l to ≤ l - all-steps nodes * g
  unfolding left left-by
  left-edge l g steps to few enough within (None, at, lower) =
      let m = all-steps nodes in
      let t = all-grades grades in
      let a = mul-le-mul_left m within in
      let e : left-by m l (slice_get grades to) ≡ 0 = ap (left-by m l) at in
      omega (arith, a, e, few, enough)
  left-edge l g steps to few enough within (Some h, at, lower) =
      let m = all-steps nodes in
      let le : suc g ≤ h = omega (arith, lower) in
      let a = mul-le-mul_left m le in
      let c = mul-le-mul_left m (grade-within grades to h at) in
      let d : m * suc g ≡ m * g + m = grind arith in
      let e : left-by m l (slice_get grades to) ≡ l - m * h = ap (left-by m l) at in
      omega (arith, a, c, d, e, few, enough)

  at-least : (l : ℕ) → all-steps nodes * all-grades grades + all-steps nodes ≤ l → (i : ℕ) (n : Node) →
      slice_get nodes i ≡ Some n →
      IsAtLeast (λ j. count p q (seen j) (left l j)) (of_states q (seen i)) (count p q (seen i) (left l i)) n
  at-least l enough i Ends e = let x = chain i Ends e in count-ended p q k (seen i) x.0 (left l i) x.1
  at-least l enough i (Stuck f) e = tt
  at-least l enough i (Goes f) e =
      let lt = got_below nodes i (Goes f) e in
      let there = got_at grades i None (omega (arith, lt, long)) in
      by_grade (slice_index_or grades i None) there
    where
      by_grade : (g : Option ℕ) → slice_get grades i ≡ Some g →
          along (λ j. count p q (seen j) (left l j)) f.chance f ≤ count p q (seen i) (left l i)
      by_grade None g =
          let x = graded i f None e g in
          let a = x.zero in let b = x.one in
          let ga : slice_get grades f.zero.to ≡ Some None = a.1 ∙ ap Some (none-behind a.0 a.2) in
          let gb : slice_get grades f.one.to ≡ Some None = b.1 ∙ ap Some (none-behind b.0 b.2) in
          let z = along-zero (λ j. count p q (seen j) (left l j)) f.chance f (ungraded (left l f.zero.to) f.zero.to ga)
          (ungraded (left l f.one.to) f.one.to gb) in
          omega (arith, z)
      by_grade (Some g) h =
          let x = graded i f (Some g) e h in
          let w = steps-within nodes i f e in
          let r = grade-within grades i g h in
          let a = left-edge l g f.zero.steps f.zero.to w.0 enough r x.zero in
          let b = left-edge l g f.one.steps f.one.to w.1 enough r x.one in
          let here = left-is l i g h in
          subst (λ m. along (λ j. count p q (seen j) (left l j)) f.chance f ≤ count p q (seen i) m) (sym here)
          (fork-above p q k seen (seen i) f (l - all-steps nodes * g) (left l) (chain i (Goes f) e) a (λ c. b))

  pub counted : (counts : List ℕ) → AreCounts nodes grades counts →
      CountsRuns p (seen 0) q (passing (λ i. of_states q (seen i)) nodes counts)
  counted counts are = record {
    least = all-steps nodes * all-grades grades + all-steps nodes;
    counted = λ l enough.
        let n = passing (λ i. of_states q (seen i)) nodes counts in
        let v : ℕ → ℕ = λ i. count p q (seen i) l in
        let w : ℕ → ℕ = λ i. count p q (seen i) (left l i) in
        let a = are.flows v (λ i g. ungraded l i g) in
        let b = are.flows w (λ i g. ungraded (left l i) i g) in
        let c = most-sum v (λ i. of_states q (seen i)) v nodes counts are.long (at-most l) in
        let d = least-sum w (λ i. of_states q (seen i)) w nodes counts (at-least l enough) in
        let m = count-mono p q k (seen 0) (left l 0) l (left-within l 0) in
        omega (arith, a, b, c, d, m);
  }
