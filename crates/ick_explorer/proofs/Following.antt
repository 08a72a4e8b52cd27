-- How a machine is led along the run of given choices.
use Rattle.std.proofs.Common.{◌≡◌, ◌≢◌, ℕ, zero, suc, ◌+◌, ◌<◌, ◌≤◌, Bool, true, false, inl, inr}
use Rattle.std.proofs.Common.{List, [], ◌∷◌, ◌++◌, length, take, drop, Bor, refl, ap, sym, ◌∙◌, subst, arith}
use Rattle.std.specs.Prelude.{Option, Some, None, IfSome, IfNone, is_some, slice_get}
use Rattle.std.proofs.lemmas.List.{take-append-drop, length-take}
use Rattle.ick_code.specs.meaning.Move.{Asking, plain, choice, ended, ask}
use Rattle.ick_backtrack.specs.Machine.{Machine}
use Rattle.ick_backtrack.specs.Asked.{Finish, finished, at_limit, IsGoing}
use Rattle.ick_explorer.specs.Runs.{run, wants, IsWhole, IsEnd}
use Rattle.ick_explorer.specs.Marked.{IsMarked}
use Rattle.ick_explorer.specs.Walks.{Walks, IsChoosing, IsOver, EndsHere, Moves, Goes, Ends, IsStranded, Follows}
use Rattle.ick_explorer.specs.declared.walk.Way.TheVariants.{Along}
use Rattle.ick_explorer.proofs.RunLaws.{Leads-wants, Leads-ends, ends_finished, ends_limit}
use Rattle.ick_explorer.proofs.Marks.{choice_of}
use Rattle.ick_explorer.proofs.Finding.{walks_start, arrives, arrived}

-- the machine was led along the first `used` of the choices, n steps from the start
record Led (l : ℕ) (old : Machine) (c : List Bool) (used : ℕ) (m : Machine) (points : List ℕ)
    (n : ℕ) : Type 0 where
  pub used_within : used ≤ length c
  pub within : n ≤ l
  pub program : m.program ≡ old.program
  pub work : m.work ≡ old.work + n
  pub walks : Walks old.state l m (take used c) points n

led : (l : ℕ) (old m : Machine) (c₀ c₁ c : List Bool) (points₀ points : List ℕ) (used n : ℕ) →
    c₀ ≡ [] → IsMarked l old c₀ points₀ → Moves l old c₀ points₀ 0 m c₁ points n →
    c₁ ≡ take used c → used ≤ length c → Led l old c used m points n
led l old m c₀ c₁ c points₀ points used n e h moves t u = record {
  used_within = u;
  within = moves.within;
  program = moves.program;
  work = let x = moves.work in omega arith;
  walks = subst (λ x. Walks old.state l m x points n) t (moves.walks old.state (walks_start l old c₀ points₀ e h));
}

-- the same by the choices that it has taken from the start of a run
led_along : (l : ℕ) (old m : Machine) (c₀ c₁ c z : List Bool) (points₀ points : List ℕ) (n : ℕ) →
    c₀ ≡ [] → IsMarked l old c₀ points₀ → Moves l old c₀ points₀ 0 m c₁ points n →
    z ≡ take (length z) c → c₁ ≡ c₀ ++ z → Led l old c (length c₁) m points n
led_along l old m c₀ c₁ c z points₀ points n e h moves t is =
    let same : c₁ ≡ z = is ∙ ap (λ x. x ++ z) e in
    let taken : c₁ ≡ take (length c₁) c =
    same ∙ (t ∙ ap (λ x. take (length x) c) (sym same)) in
    let few = length-take (length c₁) c in
    let size = ap length taken in
    led l old m c₀ c₁ c points₀ points (length c₁) n e h moves taken (omega (arith, few, size))

pub take_whole : (c : List Bool) (used : ℕ) → used ≡ length c → take used c ≡ c
take_whole [] zero e = refl
take_whole [] (suc k) e = refl
take_whole (x ∷ c) zero e = absurd (omega arith)
take_whole (x ∷ c) (suc k) e = ap (λ r. x ∷ r) (take_whole c k (omega arith))

nothing_left : (c : List Bool) (used : ℕ) → drop used c ≡ [] → length c ≤ used
nothing_left [] used e = omega arith
nothing_left (x ∷ c) zero e = cc
nothing_left (x ∷ c) (suc k) e = let r = nothing_left c k e in omega arith

ended_path : (c₀ path c z : List Bool) → c₀ ≡ [] → z ≡ take (length z) c → path ≡ c₀ ++ z →
    length path ≡ length c → path ≡ c
ended_path c₀ path c z e taken is t =
    let same : path ≡ z = is ∙ ap (λ x. x ++ z) e in
    same ∙ (taken ∙ take_whole c (length z) (ap length (sym same) ∙ t))

-- the end of a run that is over
end_of : (l : ℕ) (m : Machine) (n : ℕ) → IsOver l m n → (f : Finish) × EndsHere l m n f
end_of l m n over = cases (ask m.program m.state) refl
  where
    limited : IsGoing (ask m.program m.state) → (f : Finish) × EndsHere l m n f
    limited going = elim over [
      | inl stopped ↦ absurd (stopped going)
      | inr at ↦ (at_limit, ends_limit l m n at going)
    ]

    cases : (a : Asking) → ask m.program m.state ≡ a → (f : Finish) × EndsHere l m n f
    cases plain is = limited (subst IsGoing (sym is) tt)
    cases (choice chance) is = limited (subst IsGoing (sym is) tt)
    cases (ended x) is = (finished x, ends_finished l m n x is)

-- at the end of a run with all choices used
ended_whole : (l : ℕ) (old m : Machine) (c : List Bool) (used : ℕ) (points : List ℕ) (n : ℕ)
    (f : Finish) → Led l old c used m points n → EndsHere l m n f → used ≡ length c →
    Follows l old c m points
ended_whole l old m c used points n f h here t =
    let w : Walks old.state l m c points n =
    subst (λ x. Walks old.state l m x points n) (take_whole c used t) h.walks in
    let a = arrives old.state l old.program m c points n f h.program w here in
    let work = h.work in
    let within = h.within in
    record {
      program = h.program;
      stands = arrived old.state l old.program m c points n f h.program w a;
      work = work ∙ ap (λ r. old.work + r.steps) (sym a.is);
      within = omega arith;
    }

-- .. with choices left over
ended_not_whole : (l : ℕ) (old m : Machine) (c : List Bool) (used : ℕ) (points : List ℕ) (n : ℕ)
    (f : Finish) → Led l old c used m points n → EndsHere l m n f → used ≢ length c →
    ¬ IsWhole old.program old.state l c
ended_not_whole l old m c used points n f h here t = λ whole.
    let within = h.used_within in
    let u : (run old.program old.state l c).unused ≡ drop used c =
    ap (λ q. (run q old.state l c).unused) (sym h.program)
    ∙ (ap (λ x. (run m.program old.state l x).unused) (sym (take-append-drop used c))
    ∙ ap (λ r. r.unused) (Leads-ends old.state l m (take used c) (drop used c) n f h.walks.leads here)) in
    let r = nothing_left c used (sym u ∙ whole.all_used) in
    absurd (t (omega (arith, r, within)))

nothing_at : (c : List Bool) (used : ℕ) → slice_get c used ≡ None → length c ≤ used
nothing_at [] used e = omega arith
nothing_at (x ∷ c) zero e = cc
nothing_at (x ∷ c) (suc k) e = let r = nothing_at c k e in omega arith

-- where a choice is asked and none is left
still_wants : (l : ℕ) (old m : Machine) (c : List Bool) (used : ℕ) (points : List ℕ) (n : ℕ) →
    Led l old c used m points n → IsChoosing m → n < l → slice_get c used ≡ None →
    ¬ IsWhole old.program old.state l c
still_wants l old m c used points n h a lt none = λ whole.
    let few = h.used_within in
    let rest = nothing_at c used none in
    let all : used ≡ length c = omega (arith, few, rest) in
    let k = choice_of (ask m.program m.state) a in
    let w = Leads-wants m.program old.state l (take used c) m.state n k.0 h.walks.leads k.1 lt in
    let v : (run old.program old.state l c).stop ≡ wants =
    ap (λ q. (run q old.state l c).stop) (sym h.program)
    ∙ (ap (λ x. (run m.program old.state l x).stop) (sym (take_whole c used all)) ∙ ap (λ r. r.stop) w) in
    subst IsEnd v whole.at_end

-- a machine that was led along choices from the start of a run
module _ {l : ℕ} {old : Machine} {c₀ : List Bool} {points₀ : List ℕ} (e : c₀ ≡ []) (h : IsMarked l old c₀ points₀)
    (given : Bor (List Bool)) (m : Machine) (c₁ : List Bool) (points : List ℕ) where
  along : (n : ℕ) → Goes (Along given) l old c₀ points₀ 0 m c₁ points n → Led l old given.now (length c₁) m points n
  along n goes =
      led_along l old m c₀ c₁ given.now goes.taken.0 points₀ points n e h goes.moves goes.taken.1 goes.taken.2

  pub follows : (led : Option ℕ) → is_some led ≡ true →
      IfSome led (λ n. Ends (Along given) l old c₀ points₀ 0 m c₁ points n) → length c₁ ≡ length given.now →
      (c₁ ≡ given.now) × Follows l old given.now m points
  follows None some over size = cc
  follows (Some n) some over size =
      let z = over.goes.taken in
      let here = end_of l m n over.over in (
        ended_path c₀ c₁ given.now z.0 e z.1 z.2 size,
        ended_whole l old m given.now (length c₁) points n here.0 (along n over.goes) here.1 size,
      )

  pub leaves : (led : Option ℕ) → IfSome led (λ n. Ends (Along given) l old c₀ points₀ 0 m c₁ points n) →
      IfNone led ((n : ℕ) × IsStranded (Along given) l old c₀ points₀ 0 m c₁ points n) →
      (is_some led ≡ true → length c₁ ≢ length given.now) → ¬ IsWhole old.program old.state l given.now
  leaves None over stranded other =
      let n = stranded.0 in
      let s = stranded.1 in
      let start = ap length e in
      let none : slice_get given.now (length c₁) ≡ None = ap (slice_get given.now) (omega (arith, start)) ∙ s.none in
      still_wants l old m given.now (length c₁) points n (along n s.goes) s.choosing s.below none
  leaves (Some n) over stranded other =
      let here = end_of l m n over.over in
      ended_not_whole l old m given.now (length c₁) points n here.0 (along n over.goes) here.1 (other refl)
