-- Proves how the number of runs that pass a test grows with the limit, and along a run.
use Prim.Native.Nat.{zero, suc}
use Rattle.std.proofs.Common.{◌≡◌, inl, inr, ℕ, ◌+◌, ◌-◌, ◌<◌, ◌≤◌, Bool, true, false}
use Rattle.std.proofs.Common.{refl, ap, sym, ◌∙◌, subst, arith}
use Rattle.ick_code.specs.meaning.State.{State, Ending}
use Rattle.ick_code.specs.meaning.Move.{Asking, plain, choice, ended}
use Rattle.ick_outcomes.specs.Programs.{ask, advance, Program, after_steps, IsPlain}
use Rattle.ick_outcomes.proofs.ProgramRuns.{chance_between}
use Rattle.ick_outcomes.specs.Tallies.{Test as OutcomeTest, one, tally, tally_at_limit, tally_on}
use Rattle.ick_chain.specs.declared.chain.Edge.{Edge}
use Rattle.ick_chain.specs.declared.chain.Fork.{Fork}
use Rattle.ick_chain.specs.Chains.{Leads, IsFork}
use Rattle.ick_chain.specs.Counts.{along}
use Rattle.ick_chain.specs.Limits.{all_if}
use Rattle.ick_chain.specs.Tallied.{IsOfEnded, of_states}
use Rattle.ick_chain.proofs.TallyLaws.{test-is}

abbrev pub count : Program → OutcomeTest → State → ℕ → ℕ
count p q s l = (tally p s l q).count

count-zero : (p : Program) (q : OutcomeTest) (s : State) (a : Asking) → ask p s ≡ a →
    count p q s 0 ≡ (tally_at_limit q a s).count
unfolding tally
count-zero p q s a h = ap (λ x. (tally_at_limit q x s).count) h

count-suc : (p : Program) (q : OutcomeTest) (s : State) (l : ℕ) (a : Asking) → ask p s ≡ a →
    count p q s (suc l) ≡ (tally_on q a s l (λ b. tally p (advance p s b) l q)).count
unfolding tally
count-suc p q s l a h = ap (λ x. (tally_on q x s l (λ b. tally p (advance p s b) l q)).count) h

one-count : (b : Bool) (l : ℕ) → (one b l).count ≡ all_if b 1
one-count true l = refl
one-count false l = refl

module _ (p : Program) (q : OutcomeTest) (k : IsOfEnded q) where
  pub count-ended : (s : State) (e : Ending) (l : ℕ) → ask p s ≡ ended e → count p q s l ≡ all_if (of_states q s) 1
  count-ended s e zero h =
      count-zero p q s (ended e) h ∙ (one-count _ 0 ∙ ap (λ b. all_if b 1) (test-is q p s e h))
  count-ended s e (suc l) h =
      count-suc p q s l (ended e) h ∙ (one-count _ (suc l) ∙ ap (λ b. all_if b 1) (test-is q p s e h))

  pub count-plain : (s : State) (l : ℕ) → ask p s ≡ plain → count p q s (suc l) ≡ count p q (advance p s false) l
  count-plain s l h = count-suc p q s l plain h

  pub count-choice : (s : State) (l c : ℕ) → ask p s ≡ choice c →
      count p q s (suc l) ≡ count p q (advance p s false) l + count p q (advance p s true) l
  count-choice s l c h = count-suc p q s l (choice c) h

  count-none : (s : State) (a : Asking) → ask p s ≡ a → ((e : Ending) → a ≡ ended e → ⊥) → count p q s 0 ≡ 0
  count-none s (ended e) h f = absurd (f e refl)
  count-none s plain h f = count-zero p q s plain h ∙ ap (λ b. (one b 0).count) (k.limit s.output)
  count-none s (choice c) h f = count-zero p q s (choice c) h ∙ ap (λ b. (one b 0).count) (k.limit s.output)

  -- the number only grows with the limit
  pub count-grows : (s : State) (l : ℕ) → count p q s l ≤ count p q s (suc l)
  count-grows s l = by_asking s l (ask p s) refl
    where
      by_asking : (s : State) (l : ℕ) (a : Asking) → ask p s ≡ a → count p q s l ≤ count p q s (suc l)
      by_asking s l (ended e) h =
          let x = count-ended s e l h in let y = count-ended s e (suc l) h in omega (arith, x, y)
      by_asking s zero plain h =
          let x = count-none s plain h (λ e z. cc) in omega (arith, x)
      by_asking s zero (choice c) h =
          let x = count-none s (choice c) h (λ e z. cc) in omega (arith, x)
      by_asking s (suc l) plain h =
          let x = count-plain s l h in let y = count-plain s (suc l) h in
          let z = by_asking (advance p s false) l (ask p (advance p s false)) refl in omega (arith, x, y, z)
      by_asking s (suc l) (choice c) h =
          let x = count-choice s l c h in let y = count-choice s (suc l) c h in
          let z = by_asking (advance p s false) l (ask p (advance p s false)) refl in
          let w = by_asking (advance p s true) l (ask p (advance p s true)) refl in omega (arith, x, y, z, w)

  pub count-more : (s : State) (l m : ℕ) → count p q s l ≤ count p q s (m + l)
  count-more s l zero =
      let z : l ≡ 0 + l = omega arith in let e = ap (count p q s) z in omega (arith, e)
  count-more s l (suc m) =
      let z : suc (m + l) ≡ suc m + l = omega arith in
      let e = ap (count p q s) z in
      let x = count-more s l m in
      let y = count-grows s (m + l) in
      omega (arith, e, x, y)

  pub count-mono : (s : State) (l m : ℕ) → l ≤ m → count p q s l ≤ count p q s m
  count-mono s l m h =
      let e : m - l + l ≡ m = omega (arith, h) in
      let x = count-more s l (m - l) in
      subst (λ z. count p q s l ≤ count p q s z) e x

  -- along plain steps
  count-on : (s : State) (l n : ℕ) → ((i : ℕ) → i < n → IsPlain p (after_steps p s i)) →
      count p q s (n + l) ≡ count p q (after_steps p s n) l
  count-on s l zero f = let z : 0 + l ≡ l = omega arith in ap (count p q s) z
  count-on s l (suc n) f =
      let e : n + suc l ≡ suc n + l = omega arith in
      ap (count p q s) (sym e)
      ∙ (count-on s (suc l) n (λ i lt. f i (omega (arith, lt)))
      ∙ count-plain (after_steps p s n) l (f n (omega arith)))

  module _ (seen : ℕ → State) where
    -- along an edge
    count-edge : (s : State) (b : Bool) (e : Edge) (l : ℕ) → Leads p seen s b e →
        count p q (advance p s b) (e.steps - 1 + l) ≡ count p q (seen e.to) l
    count-edge s b e l h =
        count-on (advance p s b) l (e.steps - 1) h.runs.on ∙ ap (λ t. count p q t l) (sym h.runs.leads)

    edge-below : (s : State) (b : Bool) (e : Edge) (l : ℕ) → Leads p seen s b e →
        count p q (advance p s b) l ≤ count p q (seen e.to) l
    edge-below s b e l h =
        let x = count-more (advance p s b) l (e.steps - 1) in
        let y = count-edge s b e l h in omega (arith, x, y)

    edge-above : (s : State) (b : Bool) (e : Edge) (l m : ℕ) → Leads p seen s b e → e.steps + m ≤ suc l →
        count p q (seen e.to) m ≤ count p q (advance p s b) l
    edge-above s b e l m h le =
        let some = h.some in
        let x = count-mono (advance p s b) (e.steps - 1 + m) l (omega (arith, le, some)) in
        let y = count-edge s b e m h in omega (arith, x, y)

    along-some : (u : ℕ → ℕ) (c : ℕ) (f : Fork) → 0 < c → along u c f ≡ u f.zero.to + u f.one.to
    along-some u zero f lt = absurd (let z : ⊥ = omega (arith, lt) in z)
    along-some u (suc c) f lt = refl

    -- from a node at most as many runs pass as from the nodes behind it
    pub fork-suc : (s : State) (f : Fork) (l : ℕ) → IsFork p seen s f →
        count p q s (suc l) ≤ along (λ j. count p q (seen j) l) f.chance f
    fork-suc s f l (inl h) =
        let c = chance_between p s f.chance h.asks in
        let lt : 0 < f.chance = c.0 in
        let x = count-choice s l f.chance h.asks in
        let y = edge-below s false f.zero l h.zero in
        let z = edge-below s true f.one l h.one in
        let w = along-some (λ j. count p q (seen j) l) f.chance f lt in
        omega (arith, x, y, z, w)
    fork-suc s f l (inr h) =
        let x = count-plain s l h.asks in
        let y = edge-below s false f.zero l h.zero in
        let w = ap (λ c. along (λ j. count p q (seen j) l) c f) h.chance in
        omega (arith, x, y, w)

    pub fork-zero : (s : State) (f : Fork) → IsFork p seen s f → count p q s 0 ≡ 0
    fork-zero s f (inl h) = count-none s (choice f.chance) h.asks (λ e z. cc)
    fork-zero s f (inr h) = count-none s plain h.asks (λ e z. cc)

    along-grows : (c l : ℕ) (f : Fork) →
        along (λ j. count p q (seen j) l) c f ≤ along (λ j. count p q (seen j) (suc l)) c f
    along-grows zero l f = count-grows (seen f.zero.to) l
    along-grows (suc c) l f =
        let x = count-grows (seen f.zero.to) l in let y = count-grows (seen f.one.to) l in omega (arith, x, y)

    pub fork-below : (s : State) (f : Fork) (l : ℕ) → IsFork p seen s f →
        count p q s l ≤ along (λ j. count p q (seen j) l) f.chance f
    fork-below s f zero h = let x = fork-zero s f h in omega (arith, x)
    fork-below s f (suc l) h =
        let x = fork-suc s f l h in let y = along-grows f.chance l f in omega (arith, x, y)

    -- and with enough steps more, at least as many
    pub fork-above : (s : State) (f : Fork) (l : ℕ) (m : ℕ → ℕ) → IsFork p seen s f →
        f.zero.steps + m f.zero.to ≤ l → (0 < f.chance → f.one.steps + m f.one.to ≤ l) →
        along (λ j. count p q (seen j) (m j)) f.chance f ≤ count p q s l
    fork-above s f zero m (inl h) a b =
        let some = h.zero.some in absurd (let z : ⊥ = omega (arith, a, some) in z)
    fork-above s f zero m (inr h) a b =
        let some = h.zero.some in absurd (let z : ⊥ = omega (arith, a, some) in z)
    fork-above s f (suc l) m (inl h) a b =
        let c = chance_between p s f.chance h.asks in
        let lt : 0 < f.chance = c.0 in
        let d = b lt in
        let x = count-choice s l f.chance h.asks in
        let y = edge-above s false f.zero l (m f.zero.to) h.zero a in
        let z = edge-above s true f.one l (m f.one.to) h.one d in
        let w = along-some (λ j. count p q (seen j) (m j)) f.chance f lt in
        omega (arith, x, y, z, w)
    fork-above s f (suc l) m (inr h) a b =
        let x = count-plain s l h.asks in
        let y = edge-above s false f.zero l (m f.zero.to) h.zero a in
        let w = ap (λ c. along (λ j. count p q (seen j) (m j)) c f) h.chance in
        omega (arith, x, y, w)
