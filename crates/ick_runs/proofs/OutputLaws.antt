-- The output of a run only grows.
use Rattle.std.proofs.Common.{◌≡◌, ℕ, zero, suc, ◌+◌, ◌-◌, ◌≤◌, Bool, false, List, [], ◌∷◌}
use Rattle.std.proofs.Common.{◌++◌, refl, ap, sym, ◌∙◌, arith, append_assoc}
use Rattle.std.proofs.lemmas.List.{append-nil}
use Rattle.ick_code.specs.meaning.State.{State}
use Rattle.ick_code.specs.meaning.Move.{Asking, plain, choice, ended, ask, advance}
use Rattle.ick_code.proofs.Leads.{advance_leads}
use Rattle.ick_backtrack.specs.Machine.{Program}
use Rattle.ick_explorer.specs.Runs.{run, run_at_limit}
use Rattle.ick_explorer.specs.Paths.{Leads}
use Rattle.ick_explorer.proofs.RunLaws.{run-ended, run-plain, run-choice, run-wants}

grown_twice : (a b c x y : List ℕ) → b ≡ a ++ x → c ≡ b ++ y → (rest : List ℕ) × (c ≡ a ++ rest)
grown_twice a b c x y e f = (x ++ y, f ∙ (ap (λ z. z ++ y) e ∙ append_assoc a x y))

nothing_grown : (a b : List ℕ) → b ≡ a → (rest : List ℕ) × (b ≡ a ++ rest)
nothing_grown a b e = ([], e ∙ sym (append-nil a))

limit_output : (p : Program) (s : State) (c : List Bool) → (run p s 0 c).last.output ≡ s.output
unfolding run
limit_output p s c =
    elim (ask p s) as (λ a. (run_at_limit a s c).last.output ≡ s.output)
    [ plain ↦ refl | choice k ↦ refl | ended e ↦ refl ]

grows_by : (p : Program) (s : State) (l : ℕ) (c : List Bool) (a : Asking) → ask p s ≡ a →
    ((b : Bool) (d : List Bool) →
    (rest : List ℕ) × ((run p (advance p s b) l d).last.output ≡ (advance p s b).output ++ rest)) →
    (rest : List ℕ) × ((run p s (suc l) c).last.output ≡ s.output ++ rest)
grows_by p s l c (ended e) h ih = nothing_grown s.output _ (ap (λ r. r.last.output) (run-ended p s (suc l) c e h))
grows_by p s l c plain h ih =
    let x = (advance_leads p s false).grows in
    let y = ih false c in
    grown_twice s.output _ _ x.0 y.0 x.1 (ap (λ r. r.last.output) (run-plain p s l c h) ∙ y.1)
grows_by p s l [] (choice k) h ih = nothing_grown s.output _ (ap (λ r. r.last.output) (run-wants p s l k h))
grows_by p s l (b ∷ c) (choice k) h ih =
    let x = (advance_leads p s b).grows in
    let y = ih b c in
    grown_twice s.output _ _ x.0 y.0 x.1 (ap (λ r. r.last.output) (run-choice p s l k b c h) ∙ y.1)

run_grows : (p : Program) (s : State) (l : ℕ) (c : List Bool) →
    (rest : List ℕ) × ((run p s l c).last.output ≡ s.output ++ rest)
run_grows p s zero c = nothing_grown s.output _ (limit_output p s c)
run_grows p s (suc l) c = grows_by p s l c (ask p s) refl (λ b d. run_grows p (advance p s b) l d)

-- and so does that of a run which leads somewhere
pub leads_grows : (p : Program) (s : State) (l : ℕ) (c more : List Bool) (t : State) (n : ℕ) →
    Leads p s l c t n → (rest : List ℕ) × ((run p s l (c ++ more)).last.output ≡ t.output ++ rest)
leads_grows p s l c more t n h =
    let w : n ≤ l = h.within in
    let f : n + (l - n) ≡ l = omega arith in
    let r = run_grows p t (l - n) more in
    (r.0, ap (λ x. x.last.output) (h.goes_on (l - n) more f) ∙ r.1)
