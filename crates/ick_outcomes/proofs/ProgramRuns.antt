-- Proves laws of the runs of programs whose output may be left out.
use Prim.Native.Nat.{zero, suc}
use Rattle.std.proofs.Common.{◌≡◌, ℕ, ◌+◌, ◌-◌, ◌<◌, ◌≤◌, ◌⊎◌, inl, inr, Bool, true}
use Rattle.std.proofs.Common.{false, List, [], ◌∷◌, ◌++◌, refl, ap, sym, ◌∙◌, subst, arith}
use Rattle.std.proofs.lemmas.List.{append-nil}
use Rattle.std.proofs.Common.{append_assoc, Some}
use Rattle.ick_code.specs.meaning.State.{State, Ending}
use Rattle.ick_code.specs.meaning.Move.{Asking, plain, choice, ended}
use Rattle.ick_code.proofs.AskLaws.{chance_between as between, ended_exactly}
use Rattle.ick_backtrack.specs.Asked.{Finish, finished, at_limit, IsGoing}
use Rattle.ick_explorer.specs.Runs.{ends, wants, Execution, stays, stepped, run_at_limit, run_on, IsEnd}
use Rattle.ick_explorer.specs.Order.{IsBelow}
use Rattle.ick_explorer.specs.Paths.{later}
use Rattle.ick_outcomes.specs.Programs.{Program, ask, advance, after_steps, RunsOn, run, IsWhole, Leads}

-- a choice is asked at a chance strictly between none and all
pub chance_between : (p : Program) (s : State) (n : ℕ) → ask p s ≡ choice n → (0 < n) × (n < 100)
unfolding ask
chance_between p s n h = between p.statements s n h

-- a state that has ended says how
pub end_is : (p : Program) (s : State) (e : Ending) → ask p s ≡ ended e → s.end ≡ Some e
unfolding ask
end_is p s e h = (ended_exactly p.statements s e).0 h

pub run-ended : (p : Program) (s : State) (l : ℕ) (c : List Bool) (e : Ending) → ask p s ≡ ended e →
    run p s l c ≡ record { last = s; stop = ends (finished e); steps = 0; unused = c }
unfolding run
run-ended p s zero c e h = ap (λ a. run_at_limit a s c) h
run-ended p s (suc l) c e h = ap (λ a. run_on a s c (λ b rest. run p (advance p s b) l rest)) h

pub run-plain : (p : Program) (s : State) (l : ℕ) (c : List Bool) → ask p s ≡ plain →
    run p s (suc l) c ≡ stepped (run p (advance p s false) l c)
unfolding run
run-plain p s l c h = ap (λ a. run_on a s c (λ b rest. run p (advance p s b) l rest)) h

pub run-choice : (p : Program) (s : State) (l k : ℕ) (b : Bool) (c : List Bool) → ask p s ≡ choice k →
    run p s (suc l) (b ∷ c) ≡ stepped (run p (advance p s b) l c)
unfolding run
run-choice p s l k b c h = ap (λ a. run_on a s (b ∷ c) (λ b rest. run p (advance p s b) l rest)) h

pub run-wants : (p : Program) (s : State) (l k : ℕ) → ask p s ≡ choice k →
    run p s (suc l) [] ≡ record { last = s; stop = wants; steps = 0; unused = [] }
unfolding run
run-wants p s l k h = ap (λ a. run_on a s [] (λ b rest. run p (advance p s b) l rest)) h

-- at the limit a run ends
pub limit-unused : (p : Program) (s : State) (c : List Bool) → (run p s 0 c).unused ≡ c
unfolding run
limit-unused p s c =
    elim (ask p s) as (λ a. (run_at_limit a s c).unused ≡ c) [
      | plain ↦ refl
      | choice k ↦ refl
      | ended e ↦
          refl
    ]

later-zero : (r : Execution) → r ≡ later 0 r
later-zero r = let e : r.steps ≡ 0 + r.steps = omega arith in ap (λ n. record r { steps = n }) e

later-stepped : (n : ℕ) (r : Execution) → later n (stepped r) ≡ later (n + 1) r
later-stepped n r = let e : n + suc r.steps ≡ n + 1 + r.steps = omega arith in ap (λ k. record r { steps = k }) e

stepped-later : (n : ℕ) (r : Execution) → stepped (later n r) ≡ later (suc n) r
stepped-later n r = let e : suc (n + r.steps) ≡ suc n + r.steps = omega arith in ap (λ k. record r { steps = k }) e

-- a run leads to its own start
pub Leads-start : (p : Program) (s : State) (l : ℕ) → Leads p s l [] s 0
Leads-start p s l = record {
  within = omega arith;
  goes_on = λ m more e. let f : l ≡ m = omega arith in ap (λ k. run p s k more) f ∙ later-zero (run p s m more);
}

-- .. and goes on by a plain step
pub Leads-plain : (p : Program) (s : State) (l : ℕ) (c : List Bool) (t : State) (n : ℕ) →
    Leads p s l c t n → ask p t ≡ plain → n < l → Leads p s l c (advance p t false) (n + 1)
Leads-plain p s l c t n h a lt = record {
  within = omega arith;
  goes_on = λ m more e. let f : n + suc m ≡ l = omega arith in
      h.goes_on (suc m) more f
      ∙ (ap (later n) (run-plain p t m more a) ∙ later-stepped n (run p (advance p t false) m more));
}

-- .. and by many
pub Leads-on : (p : Program) (s : State) (l : ℕ) (c : List Bool) (t u : State) (n k : ℕ) →
    Leads p s l c t n → RunsOn p t k u → n + k ≤ l → Leads p s l c u (n + k)
Leads-on p s l c t u n k h runs within =
    subst (λ x. Leads p s l c x (n + k)) (sym runs.leads) (up_to k (omega arith))
  where
    up_to : (i : ℕ) → i ≤ k → Leads p s l c (after_steps p t i) (n + i)
    up_to zero le = let none : n ≡ n + 0 = omega arith in subst (Leads p s l c t) none h
    up_to (suc i) le =
        let next : n + i + 1 ≡ n + suc i = omega arith in
        let lt : i < k = omega (arith, le) in
        subst (Leads p s l c (after_steps p t (suc i))) next
        (Leads-plain p s l c (after_steps p t i) (n + i) (up_to i (omega (arith, le))) (runs.on i lt)
        (omega (arith, within, lt)))

-- .. and by a choice
pub Leads-choice : (p : Program) (s : State) (l : ℕ) (c : List Bool) (t : State) (n k : ℕ) (b : Bool) →
    Leads p s l c t n → ask p t ≡ choice k → n < l → Leads p s l (c ++ b ∷ []) (advance p t b) (n + 1)
Leads-choice p s l c t n k b h a lt = record {
  within = omega arith;
  goes_on = λ m more e. let f : n + suc m ≡ l = omega arith in
      ap (run p s l) (append_assoc c (b ∷ []) more)
      ∙ (h.goes_on (suc m) (b ∷ more) f
      ∙ (ap (later n) (run-choice p t m k b more a) ∙ later-stepped n (run p (advance p t b) m more)));
}

-- where it asks a choice, the run with these choices alone wants one
pub Leads-wants : (p : Program) (s : State) (l : ℕ) (c : List Bool) (t : State) (n k : ℕ) →
    Leads p s l c t n → ask p t ≡ choice k → n < l →
    run p s l c ≡ record { last = t; stop = wants; steps = n; unused = [] }
Leads-wants p s l c t n k h a lt =
    let f : n + suc (l - suc n) ≡ l = omega arith in
    let g : n + 0 ≡ n = omega arith in
    ap (run p s l) (sym (append-nil c)) ∙ (h.goes_on (suc (l - suc n)) [] f
    ∙ (ap (later n) (run-wants p t (l - suc n) k a)
    ∙ ap (λ i. record { last = t; stop = wants; steps = i; unused = [] }) g))

-- at the limit a run that goes on ends
pub limit-going : (p : Program) (t : State) (c : List Bool) (a : Asking) → ask p t ≡ a → IsGoing a →
    run p t 0 c ≡ stays t (ends at_limit) c
unfolding run
limit-going p t c plain e g = ap (λ a. run_at_limit a t c) e
limit-going p t c (choice k) e g = ap (λ a. run_at_limit a t c) e
limit-going p t c (ended x) e g = absurd g

-- where a run ends whatever choices are left, a run that leads there ends too, and leaves the same choices over
pub Leads-ends : (p : Program) (s : State) (l : ℕ) (c more : List Bool) (t : State) (n : ℕ) (f : Finish) →
    Leads p s l c t n → ((d : List Bool) → run p t (l - n) d ≡ stays t (ends f) d) →
    run p s l (c ++ more) ≡ record { last = t; stop = ends f; steps = n; unused = more }
Leads-ends p s l c more t n f h here =
    let w : n ≤ l = h.within in
    let e : n + (l - n) ≡ l = omega arith in
    let g : n + 0 ≡ n = omega arith in
    h.goes_on (l - n) more e
    ∙ (ap (later n) (here more)
    ∙ ap (λ i. record { last = t; stop = ends f; steps = i; unused = more }) g)

-- c and d are the same, or one is below the other
abbrev pub IsCompared : List Bool → List Bool → Type 0
IsCompared c d = (c ≡ d) ⊎ (IsBelow c d ⊎ IsBelow d c)

same-head : (b : Bool) (c d : List Bool) →
    IsCompared c d → (IsBelow c d → IsBelow (b ∷ c) (b ∷ d)) →
    (IsBelow d c → IsBelow (b ∷ d) (b ∷ c)) → IsCompared (b ∷ c) (b ∷ d)
same-head b c d (inl e) f g = inl (ap (λ xs. b ∷ xs) e)
same-head b c d (inr (inl x)) f g = inr (inl (f x))
same-head b c d (inr (inr x)) f g = inr (inr (g x))

pub whole-along : {p : Program} {s s' : State} {l l' : ℕ} {c c' : List Bool} →
    run p s l c ≡ stepped (run p s' l' c') → IsWhole p s l c → IsWhole p s' l' c'
whole-along {p} {s} {s'} {l} {l'} {c} {c'} e w = record {
  at_end = subst (λ r. IsEnd r.stop) e w.at_end;
  all_used = sym (ap (λ r. r.unused) e) ∙ w.all_used;
}

pub whole-back : {p : Program} {s s' : State} {l l' : ℕ} {c c' : List Bool} →
    run p s l c ≡ stepped (run p s' l' c') → IsWhole p s' l' c' → IsWhole p s l c
whole-back {p} {s} {s'} {l} {l'} {c} {c'} e w = record {
  at_end = subst (λ r. IsEnd r.stop) (sym e) w.at_end;
  all_used = ap (λ r. r.unused) e ∙ w.all_used;
}

-- two whole lists are the same, or one of them is below the other
compare-by : (p : Program) (s : State) (l : ℕ) (c d : List Bool) (a : Asking) → ask p s ≡ a →
    ((x : Bool) (c' d' : List Bool) → IsWhole p (advance p s x) l c' → IsWhole p (advance p s x) l d' →
    IsCompared c' d') →
    IsWhole p s (suc l) c → IsWhole p s (suc l) d → IsCompared c d
compare-by p s l c d (ended e) h ih u v =
    let x : c ≡ [] = sym (ap (λ r. r.unused) (run-ended p s (suc l) c e h)) ∙ u.all_used in
    let y : d ≡ [] = sym (ap (λ r. r.unused) (run-ended p s (suc l) d e h)) ∙ v.all_used in
    inl (x ∙ sym y)
compare-by p s l c d plain h ih u v =
    ih false c d (whole-along (run-plain p s l c h) u) (whole-along (run-plain p s l d h) v)
compare-by p s l [] d (choice k) h ih u v = absurd (subst (λ r. IsEnd r.stop) (run-wants p s l k h) u.at_end)
compare-by p s l (x ∷ c) [] (choice k) h ih u v = absurd (subst (λ r. IsEnd r.stop) (run-wants p s l k h) v.at_end)
compare-by p s l (false ∷ c) (true ∷ d) (choice k) h ih u v = inr (inl tt)
compare-by p s l (true ∷ c) (false ∷ d) (choice k) h ih u v = inr (inr tt)
compare-by p s l (false ∷ c) (false ∷ d) (choice k) h ih u v =
    same-head false c d (ih false c d (whole-along (run-choice p s l k false c h) u)
    (whole-along (run-choice p s l k false d h) v)) (λ i. i) (λ i. i)
compare-by p s l (true ∷ c) (true ∷ d) (choice k) h ih u v =
    same-head true c d (ih true c d (whole-along (run-choice p s l k true c h) u)
    (whole-along (run-choice p s l k true d h) v)) (λ i. i) (λ i. i)

pub compared : (p : Program) (s : State) (l : ℕ) (c d : List Bool) → IsWhole p s l c → IsWhole p s l d →
    IsCompared c d
compared p s zero c d u v =
    inl ((sym (limit-unused p s c) ∙ u.all_used) ∙ sym (sym (limit-unused p s d) ∙ v.all_used))
compared p s (suc l) c d u v = compare-by p s l c d (ask p s) refl (λ x c' d'. compared p (advance p s x) l c' d') u v
