-- Laws of runs.
use Prim.Native.Nat.{zero, suc}
use Rattle.std.proofs.Common.{◌≡◌, ℕ, ◌+◌, ◌-◌, ◌<◌, ◌≤◌, ◌⊎◌, inl, inr, Bool, true}
use Rattle.std.proofs.Common.{false, List, [], ◌∷◌, ◌++◌, length, refl, ap, sym, ◌∙◌, subst, arith}
use Rattle.std.proofs.lemmas.List.{append-nil}
use Rattle.std.proofs.Common.{append_assoc}
use Rattle.ick_backtrack.specs.Machine.{Program, Machine}
use Rattle.ick_code.specs.meaning.State.{State}
use Rattle.ick_code.specs.meaning.Move.{Asking, plain, choice, ended, ask, advance}
use Rattle.ick_code.specs.meaning.State.{Ending}
use Rattle.ick_backtrack.specs.Asked.{Finish, finished, at_limit, IsGoing}
use Rattle.ick_backtrack.specs.Steps.{after_steps, IsPlain, RunsOn}
use Rattle.ick_explorer.specs.Runs.{ends, wants, Execution, stays, stepped, run_at_limit, run_on, run, IsEnd, IsWhole}
use Rattle.ick_explorer.specs.Order.{IsBelow}
use Rattle.ick_explorer.specs.Paths.{later, Leads}
use Rattle.ick_explorer.specs.Walks.{EndsHere}

pub run-ended : (p : Program) (s : State) (l : ℕ) (c : List Bool) (e : Ending) → ask p s ≡ ended e →
    run p s l c ≡ record { last = s; stop = ends (finished e); steps = 0; unused = c }
unfolding run
run-ended p s zero c e h = ap (λ a. run_at_limit a s c) h
run-ended p s (suc l) c e h = ap (λ a. run_on a s c (λ b rest. run p (advance p s b) l rest)) h

pub run-plain : (p : Program) (s : State) (l : ℕ) (c : List Bool) → ask p s ≡ plain →
    run p s (suc l) c ≡ stepped (run p (advance p s false) l c)
unfolding run
run-plain p s l c h = ap (λ a. run_on a s c (λ b rest. run p (advance p s b) l rest)) h

pub run-choice : (p : Program) (s : State) (l k : ℕ) (b : Bool) (c : List Bool) → ask p s ≡ choice k →
    run p s (suc l) (b ∷ c) ≡ stepped (run p (advance p s b) l c)
unfolding run
run-choice p s l k b c h = ap (λ a. run_on a s (b ∷ c) (λ b rest. run p (advance p s b) l rest)) h

pub run-wants : (p : Program) (s : State) (l k : ℕ) → ask p s ≡ choice k →
    run p s (suc l) [] ≡ record { last = s; stop = wants; steps = 0; unused = [] }
unfolding run
run-wants p s l k h = ap (λ a. run_on a s [] (λ b rest. run p (advance p s b) l rest)) h

-- at the limit a run ends
pub limit-unused : (p : Program) (s : State) (c : List Bool) → (run p s 0 c).unused ≡ c
unfolding run
limit-unused p s c =
    elim (ask p s) as (λ a. (run_at_limit a s c).unused ≡ c) [
      | plain ↦ refl
      | choice k ↦ refl
      | ended e ↦
          refl
    ]

pub limit-end : (p : Program) (s : State) (c : List Bool) → IsEnd (run p s 0 c).stop
unfolding run
limit-end p s c =
    elim (ask p s) as (λ a. IsEnd (run_at_limit a s c).stop) [ plain ↦ tt | choice k ↦ tt | ended e ↦ tt ]

later-zero : (r : Execution) → r ≡ later 0 r
later-zero r = let e : r.steps ≡ 0 + r.steps = omega arith in ap (λ n. record r { steps = n }) e

later-stepped : (n : ℕ) (r : Execution) → later n (stepped r) ≡ later (n + 1) r
later-stepped n r = let e : n + suc r.steps ≡ n + 1 + r.steps = omega arith in ap (λ k. record r { steps = k }) e

stepped-later : (n : ℕ) (r : Execution) → stepped (later n r) ≡ later (suc n) r
stepped-later n r = let e : suc (n + r.steps) ≡ suc n + r.steps = omega arith in ap (λ k. record r { steps = k }) e

-- a run leads to its own start
pub Leads-start : (p : Program) (s : State) (l : ℕ) → Leads p s l [] s 0
Leads-start p s l = record {
  within = omega arith;
  goes_on = λ m more e. let f : l ≡ m = omega arith in ap (λ k. run p s k more) f ∙ later-zero (run p s m more);
}

-- .. and goes on by a plain step
pub Leads-plain : (p : Program) (s : State) (l : ℕ) (c : List Bool) (t : State) (n : ℕ) →
    Leads p s l c t n → ask p t ≡ plain → n < l → Leads p s l c (advance p t false) (n + 1)
Leads-plain p s l c t n h a lt = record {
  within = omega arith;
  goes_on = λ m more e. let f : n + suc m ≡ l = omega arith in
      h.goes_on (suc m) more f
      ∙ (ap (later n) (run-plain p t m more a) ∙ later-stepped n (run p (advance p t false) m more));
}

-- .. and by many
pub Leads-on : (p : Program) (s : State) (l : ℕ) (c : List Bool) (t u : State) (n k : ℕ) →
    Leads p s l c t n → RunsOn IsPlain p t k u → n + k ≤ l → Leads p s l c u (n + k)
Leads-on p s l c t u n k h runs within =
    subst (λ x. Leads p s l c x (n + k)) (sym runs.leads) (up_to k (omega arith))
  where
    up_to : (i : ℕ) → i ≤ k → Leads p s l c (after_steps p t i) (n + i)
    up_to zero le = let none : n ≡ n + 0 = omega arith in subst (Leads p s l c t) none h
    up_to (suc i) le =
        let next : n + i + 1 ≡ n + suc i = omega arith in
        let lt : i < k = omega (arith, le) in
        subst (Leads p s l c (after_steps p t (suc i))) next
        (Leads-plain p s l c (after_steps p t i) (n + i) (up_to i (omega (arith, le))) (runs.on i lt)
        (omega (arith, within, lt)))

-- .. and by a choice
pub Leads-choice : (p : Program) (s : State) (l : ℕ) (c : List Bool) (t : State) (n k : ℕ) (b : Bool) →
    Leads p s l c t n → ask p t ≡ choice k → n < l → Leads p s l (c ++ b ∷ []) (advance p t b) (n + 1)
Leads-choice p s l c t n k b h a lt = record {
  within = omega arith;
  goes_on = λ m more e. let f : n + suc m ≡ l = omega arith in
      ap (run p s l) (append_assoc c (b ∷ []) more)
      ∙ (h.goes_on (suc m) (b ∷ more) f
      ∙ (ap (later n) (run-choice p t m k b more a) ∙ later-stepped n (run p (advance p t b) m more)));
}

-- where it asks a choice, the run with these choices alone wants one
pub Leads-wants : (p : Program) (s : State) (l : ℕ) (c : List Bool) (t : State) (n k : ℕ) →
    Leads p s l c t n → ask p t ≡ choice k → n < l →
    run p s l c ≡ record { last = t; stop = wants; steps = n; unused = [] }
Leads-wants p s l c t n k h a lt =
    let f : n + suc (l - suc n) ≡ l = omega arith in
    let g : n + 0 ≡ n = omega arith in
    ap (run p s l) (sym (append-nil c)) ∙ (h.goes_on (suc (l - suc n)) [] f
    ∙ (ap (later n) (run-wants p t (l - suc n) k a)
    ∙ ap (λ i. record { last = t; stop = wants; steps = i; unused = [] }) g))

-- where a run ends whatever choices are left: at an end of the program, or at the limit
pub ends_finished : (l : ℕ) (m : Machine) (n : ℕ) (e : Ending) → ask m.program m.state ≡ ended e →
    EndsHere l m n (finished e)
ends_finished l m n e a = record { stays_here = λ c. run-ended m.program m.state (l - n) c e a }

pub limit-going : (p : Program) (t : State) (c : List Bool) (a : Asking) → ask p t ≡ a → IsGoing a →
    run p t 0 c ≡ stays t (ends at_limit) c
unfolding run
limit-going p t c plain e g = ap (λ a. run_at_limit a t c) e
limit-going p t c (choice k) e g = ap (λ a. run_at_limit a t c) e
limit-going p t c (ended x) e g = absurd g

pub ends_limit : (l : ℕ) (m : Machine) (n : ℕ) → n ≡ l → IsGoing (ask m.program m.state) →
    EndsHere l m n at_limit
ends_limit l m n e g = record {
  stays_here = λ c. let f : l - n ≡ 0 = omega arith in
      ap (λ k. run m.program m.state k c) f ∙ limit-going m.program m.state c (ask m.program m.state) refl g;
}

-- .. there a run that leads to it ends too, and leaves the same choices over
pub Leads-ends : (s : State) (l : ℕ) (m : Machine) (c more : List Bool) (n : ℕ) (f : Finish) →
    Leads m.program s l c m.state n → EndsHere l m n f →
    run m.program s l (c ++ more) ≡ record { last = m.state; stop = ends f; steps = n; unused = more }
Leads-ends s l m c more n f h here =
    let w : n ≤ l = h.within in
    let e : n + (l - n) ≡ l = omega arith in
    let g : n + 0 ≡ n = omega arith in
    h.goes_on (l - n) more e
    ∙ (ap (later n) (here.stays_here more)
    ∙ ap (λ i. record { last = m.state; stop = ends f; steps = i; unused = more }) g)

-- a run that wants a choice goes on from where it stopped
pub record Stops (p : Program) (s : State) (l : ℕ) (c : List Bool) (r : Execution) : Type 0 where
  pub leads : Leads p s l c r.last r.steps
  pub below : r.steps < l
  pub asks : (k : ℕ) × (ask p r.last ≡ choice k)

stops-later : (p : Program) (s s' : State) (l : ℕ) (c c' : List Bool) (r : Execution) →
    ((more : List Bool) → run p s (suc l) (c ++ more) ≡ stepped (run p s' l (c' ++ more))) →
    Stops p s' l c' r → Stops p s (suc l) c (stepped r)
stops-later p s s' l c c' r e h = record {
  leads = record {
    within = let w : r.steps < l = h.below in omega arith;
    goes_on = λ m more f. let g : r.steps + m ≡ l = omega arith in
        e more ∙ (ap stepped (h.leads.goes_on m more g) ∙ stepped-later r.steps (run p r.last m more));
  };
  below = let w : r.steps < l = h.below in omega arith;
  asks = h.asks;
}

stops-by : (p : Program) (s : State) (l : ℕ) (c : List Bool) (a : Asking) → ask p s ≡ a →
    ((b : Bool) (d : List Bool) → (run p (advance p s b) l d).stop ≡ wants →
    Stops p (advance p s b) l d (run p (advance p s b) l d)) →
    (run p s (suc l) c).stop ≡ wants → Stops p s (suc l) c (run p s (suc l) c)
stops-by p s l c (ended e) h ih w = let x : ends (finished e) ≡ wants =
    sym (ap (λ r. r.stop) (run-ended p s (suc l) c e h)) ∙ w in cc
stops-by p s l c plain h ih w =
    let q = run-plain p s l c h in
    subst (λ r. Stops p s (suc l) c r) (sym q)
    (stops-later p s (advance p s false) l c c _ (λ more. run-plain p s l (c ++ more) h)
    (ih false c (sym (ap (λ r. r.stop) q) ∙ w)))
stops-by p s l [] (choice k) h ih w =
    subst (λ r. Stops p s (suc l) [] r) (sym (run-wants p s l k h))
    (record { leads = Leads-start p s (suc l); below = omega arith; asks = (k, h) })
stops-by p s l (b ∷ c) (choice k) h ih w =
    let q = run-choice p s l k b c h in
    subst (λ r. Stops p s (suc l) (b ∷ c) r) (sym q)
    (stops-later p s (advance p s b) l (b ∷ c) c _ (λ more. run-choice p s l k b (c ++ more) h)
    (ih b c (sym (ap (λ r. r.stop) q) ∙ w)))

pub wants-stops : (p : Program) (s : State) (l : ℕ) (c : List Bool) → (run p s l c).stop ≡ wants →
    Stops p s l c (run p s l c)
wants-stops p s zero c w = absurd (subst IsEnd w (limit-end p s c))
wants-stops p s (suc l) c w = stops-by p s l c (ask p s) refl (λ b d. wants-stops p (advance p s b) l d) w

snoc-not-nil : (pre : List Bool) (b : Bool) (rest : List Bool) → pre ++ b ∷ rest ≡ [] → ⊥
snoc-not-nil [] b rest e = cc
snoc-not-nil (x ∷ pre) b rest e = cc

-- c and d are the same, or one is below the other
abbrev pub IsCompared : List Bool → List Bool → Type 0
IsCompared c d = (c ≡ d) ⊎ (IsBelow c d ⊎ IsBelow d c)

same-head : (b : Bool) (c d : List Bool) →
    IsCompared c d → (IsBelow c d → IsBelow (b ∷ c) (b ∷ d)) →
    (IsBelow d c → IsBelow (b ∷ d) (b ∷ c)) → IsCompared (b ∷ c) (b ∷ d)
same-head b c d (inl e) f g = inl (ap (λ xs. b ∷ xs) e)
same-head b c d (inr (inl x)) f g = inr (inl (f x))
same-head b c d (inr (inr x)) f g = inr (inr (g x))

pub whole-along : {p : Program} {s s' : State} {l l' : ℕ} {c c' : List Bool} →
    run p s l c ≡ stepped (run p s' l' c') → IsWhole p s l c → IsWhole p s' l' c'
whole-along {p} {s} {s'} {l} {l'} {c} {c'} e w = record {
  at_end = subst (λ r. IsEnd r.stop) e w.at_end;
  all_used = sym (ap (λ r. r.unused) e) ∙ w.all_used;
}

-- the choices before one that a run used want it
use-by : (p : Program) (s : State) (l : ℕ) (pre : List Bool) (b : Bool) (rest : List Bool) (a : Asking) →
    ask p s ≡ a → ((x : Bool) (pre' : List Bool) →
    (run p (advance p s x) l (pre' ++ b ∷ rest)).unused ≡ [] →
    (run p (advance p s x) l pre').stop ≡ wants) → (run p s (suc l) (pre ++ b ∷ rest)).unused ≡ [] →
    (run p s (suc l) pre).stop ≡ wants
use-by p s l pre b rest (ended e) h ih u =
    let x : pre ++ b ∷ rest ≡ [] =
    sym (ap (λ r. r.unused) (run-ended p s (suc l) (pre ++ b ∷ rest) e h)) ∙ u in
    absurd (snoc-not-nil pre b rest x)
use-by p s l pre b rest plain h ih u =
    ap (λ r. r.stop) (run-plain p s l pre h)
    ∙ ih false pre (sym (ap (λ r. r.unused) (run-plain p s l (pre ++ b ∷ rest) h)) ∙ u)
use-by p s l [] b rest (choice k) h ih u = ap (λ r. r.stop) (run-wants p s l k h)
use-by p s l (x ∷ pre) b rest (choice k) h ih u =
    ap (λ r. r.stop) (run-choice p s l k x pre h)
    ∙ ih x pre (sym (ap (λ r. r.unused) (run-choice p s l k x (pre ++ b ∷ rest) h)) ∙ u)

pub use-wants : (p : Program) (s : State) (l : ℕ) (pre : List Bool) (b : Bool) (rest : List Bool) →
    (run p s l (pre ++ b ∷ rest)).unused ≡ [] → (run p s l pre).stop ≡ wants
use-wants p s zero pre b rest u = absurd (snoc-not-nil pre b rest (sym (limit-unused p s (pre ++ b ∷ rest)) ∙ u))
use-wants p s (suc l) pre b rest u =
    use-by p s l pre b rest (ask p s) refl (λ x pre'. use-wants p (advance p s x) l pre' b rest) u

-- two whole lists are the same, or one of them is below the other
compare-by : (p : Program) (s : State) (l : ℕ) (c d : List Bool) (a : Asking) → ask p s ≡ a →
    ((x : Bool) (c' d' : List Bool) → IsWhole p (advance p s x) l c' → IsWhole p (advance p s x) l d' →
    IsCompared c' d') →
    IsWhole p s (suc l) c → IsWhole p s (suc l) d → IsCompared c d
compare-by p s l c d (ended e) h ih u v =
    let x : c ≡ [] = sym (ap (λ r. r.unused) (run-ended p s (suc l) c e h)) ∙ u.all_used in
    let y : d ≡ [] = sym (ap (λ r. r.unused) (run-ended p s (suc l) d e h)) ∙ v.all_used in
    inl (x ∙ sym y)
compare-by p s l c d plain h ih u v =
    ih false c d (whole-along (run-plain p s l c h) u) (whole-along (run-plain p s l d h) v)
compare-by p s l [] d (choice k) h ih u v = absurd (subst (λ r. IsEnd r.stop) (run-wants p s l k h) u.at_end)
compare-by p s l (x ∷ c) [] (choice k) h ih u v = absurd (subst (λ r. IsEnd r.stop) (run-wants p s l k h) v.at_end)
compare-by p s l (false ∷ c) (true ∷ d) (choice k) h ih u v = inr (inl tt)
compare-by p s l (true ∷ c) (false ∷ d) (choice k) h ih u v = inr (inr tt)
compare-by p s l (false ∷ c) (false ∷ d) (choice k) h ih u v =
    same-head false c d (ih false c d (whole-along (run-choice p s l k false c h) u)
    (whole-along (run-choice p s l k false d h) v)) (λ i. i) (λ i. i)
compare-by p s l (true ∷ c) (true ∷ d) (choice k) h ih u v =
    same-head true c d (ih true c d (whole-along (run-choice p s l k true c h) u)
    (whole-along (run-choice p s l k true d h) v)) (λ i. i) (λ i. i)

pub compared : (p : Program) (s : State) (l : ℕ) (c d : List Bool) → IsWhole p s l c → IsWhole p s l d →
    IsCompared c d
compared p s zero c d u v =
    inl ((sym (limit-unused p s c) ∙ u.all_used) ∙ sym (sym (limit-unused p s d) ∙ v.all_used))
compared p s (suc l) c d u v = compare-by p s l c d (ask p s) refl (λ x c' d'. compared p (advance p s x) l c' d') u v

-- a whole list has no more choices than the limit
short-by : (p : Program) (s : State) (l : ℕ) (c : List Bool) (a : Asking) → ask p s ≡ a →
    ((x : Bool) (d : List Bool) → IsWhole p (advance p s x) l d → length d ≤ l) → IsWhole p s (suc l) c →
    length c ≤ suc l
short-by p s l c (ended e) h ih w =
    let x : c ≡ [] = sym (ap (λ r. r.unused) (run-ended p s (suc l) c e h)) ∙ w.all_used in
    let n = ap length x in omega arith
short-by p s l c plain h ih w = let n = ih false c (whole-along (run-plain p s l c h) w) in omega arith
short-by p s l [] (choice k) h ih w = omega arith
short-by p s l (x ∷ c) (choice k) h ih w = let n = ih x c (whole-along (run-choice p s l k x c h) w) in omega arith

pub whole-short : (p : Program) (s : State) (l : ℕ) (c : List Bool) → IsWhole p s l c → length c ≤ l
whole-short p s zero c w = let n = ap length (sym (limit-unused p s c) ∙ w.all_used) in omega arith
whole-short p s (suc l) c w = short-by p s l c (ask p s) refl (λ x d. whole-short p (advance p s x) l d) w

-- a run makes no more steps than the limit
steps-by : (p : Program) (s : State) (l : ℕ) (c : List Bool) (a : Asking) → ask p s ≡ a →
    ((x : Bool) (d : List Bool) → (run p (advance p s x) l d).steps ≤ l) → (run p s (suc l) c).steps ≤ suc l
steps-by p s l c (ended e) h ih = let n = ap (λ r. r.steps) (run-ended p s (suc l) c e h) in omega arith
steps-by p s l c plain h ih = let n = ap (λ r. r.steps) (run-plain p s l c h) in let m = ih false c in omega arith
steps-by p s l [] (choice k) h ih = let n = ap (λ r. r.steps) (run-wants p s l k h) in omega arith
steps-by p s l (x ∷ c) (choice k) h ih = let n = ap (λ r. r.steps) (run-choice p s l k x c h) in let m = ih x c in
    omega arith

limit-steps : (p : Program) (s : State) (c : List Bool) → (run p s 0 c).steps ≡ 0
unfolding run
limit-steps p s c =
    elim (ask p s) as (λ a. (run_at_limit a s c).steps ≡ 0) [ plain ↦ refl | choice k ↦ refl | ended e ↦ refl ]

pub steps_within : (p : Program) (s : State) (l : ℕ) (c : List Bool) → (run p s l c).steps ≤ l
steps_within p s zero c = let n = limit-steps p s c in omega arith
steps_within p s (suc l) c = steps-by p s l c (ask p s) refl (λ x d. steps_within p (advance p s x) l d)
