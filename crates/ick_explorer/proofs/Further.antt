-- Where a run has a zero, a further run comes after it.
use Prim.Native.Nat.{zero, suc}
use Rattle.std.proofs.Common.{◌≡◌, ℕ, ◌+◌, ◌-◌, ◌<◌, ◌≤◌, ◌⊎◌, inl, inr, Bool, true}
use Rattle.std.proofs.Common.{false, List, [], ◌∷◌, ◌++◌, refl}
use Rattle.std.proofs.Common.{ap, sym, ◌∙◌, subst, arith, append_assoc}
use Rattle.std.specs.Prelude.{Some}
use Rattle.ick_backtrack.specs.Machine.{Program}
use Rattle.ick_code.specs.meaning.State.{State}
use Rattle.ick_code.specs.meaning.Move.{Asking, plain, choice, ended, ask, advance}
use Rattle.ick_explorer.specs.Runs.{run, IsWhole, IsEnd}
use Rattle.ick_explorer.specs.Order.{IsAfter}
use Rattle.ick_explorer.specs.Listings.{zeros_in}
use Rattle.ick_explorer.specs.Paths.{Leads, AllOnes, AllZeros, TurnsAt}
use Rattle.ick_explorer.proofs.RunLaws.{run-ended, run-plain, run-choice, limit-unused, limit-end, wants-stops, use-wants}
use Rattle.ick_explorer.proofs.RunLaws.{Leads-choice}
use Rattle.ick_explorer.proofs.Existence.{whole-back}
use Rattle.ick_explorer.proofs.Marks.{zeros-ones}
use Rattle.ick_explorer.proofs.Orders.{turned_below}

abbrev HasFirst : Program → State → ℕ → Type 0
HasFirst p s l = (z : List Bool) × AllZeros z × IsWhole p s l z

first_by : (p : Program) (s : State) (l : ℕ) (a : Asking) →
    ask p s ≡ a → ((b : Bool) → HasFirst p (advance p s b) l) → HasFirst p s (suc l)
first_by p s l (ended e) h ih = (
  [],
  tt,
  record {
    at_end = subst (λ r. IsEnd r.stop) (sym (run-ended p s (suc l) [] e h)) tt;
    all_used = ap (λ r. r.unused) (run-ended p s (suc l) [] e h);
  },
)
first_by p s l plain h ih = let i = ih false in (i.0, i.1, whole-back (run-plain p s l i.0 h) i.2)
first_by p s l (choice k) h ih = let i = ih false in
    (false ∷ i.0, i.1, whole-back (run-choice p s l k false i.0 h) i.2)

-- there is always a run that takes zeros alone
pub has_first : (p : Program) (s : State) (l : ℕ) → (z : List Bool) × AllZeros z × IsWhole p s l z
has_first p s zero = ([], tt, record { at_end = limit-end p s []; all_used = limit-unused p s [] })
has_first p s (suc l) = first_by p s l (ask p s) refl (λ b. has_first p (advance p s b) l)

last_zero : (c : List Bool) → (AllOnes c ⊎ ((pre : List Bool) × TurnsAt c pre))
last_zero [] = inl tt
last_zero (true ∷ c) =
    elim (last_zero c) [ inl a ↦ inl a | inr t ↦ inr (true ∷ t.0, (t.1.0, t.1.1, ap (λ x. true ∷ x) t.1.2)) ]
last_zero (false ∷ c) =
    elim (last_zero c) [
      | inl a ↦ inr ([], (c, a, refl))
      | inr t ↦
          inr (false ∷ t.0, (t.1.0, t.1.1, ap (λ x. false ∷ x) t.1.2))
    ]

pub zero_turns : (c : List Bool) → 0 < zeros_in c → (pre : List Bool) × TurnsAt c pre
zero_turns c h =
    elim (last_zero c) [ inl a ↦ absurd (let e : zeros_in c ≡ 0 = zeros-ones c a in omega arith) | inr t ↦ t ]

whole_leads : (p : Program) (s : State) (l : ℕ) (c : List Bool) (t : State) (n : ℕ) →
    Leads p s l c t n → (z : List Bool) → IsWhole p t (l - n) z → IsWhole p s l (c ++ z)
whole_leads p s l c t n h z w =
    let le : n ≤ l = h.within in
    let e : n + (l - n) ≡ l = omega arith in
    let i = h.goes_on (l - n) z e in record {
      at_end = subst (λ r. IsEnd r.stop) (sym i) w.at_end;
      all_used = ap (λ r. r.unused) i ∙ w.all_used;
    }

-- a whole list with a zero has a whole list above it
pub has_next : (p : Program) (s : State) (l : ℕ) (c : List Bool) → IsWhole p s l c →
    0 < zeros_in c → (d : List Bool) × IsWhole p s l d × IsAfter (Some c) d
has_next p s l c w h =
    let turn = zero_turns c h in
    let pre = turn.0 in
    let t = turn.1 in
    let stop =
    wants-stops p s l pre (use-wants p s l pre false t.0 (ap (λ x. (run p s l x).unused) (sym t.2) ∙ w.all_used)) in
    let r = run p s l pre in
    let on = Leads-choice p s l pre r.last r.steps stop.asks.0 true stop.leads stop.asks.1 stop.below in
    let z = has_first p (advance p r.last true) (l - (r.steps + 1)) in
    let d : List Bool = (pre ++ true ∷ []) ++ z.0 in (
      d,
      whole_leads p s l (pre ++ true ∷ []) (advance p r.last true) (r.steps + 1) on z.0 z.2,
      subst (λ x. IsAfter (Some x) d) (sym t.2)
          (subst (λ x. IsAfter (Some (pre ++ false ∷ t.0)) x) (sym (append_assoc pre (true ∷ []) z.0))
          (turned_below pre t.0 z.0)),
    )
