-- How one run goes whose choices are given.
use Rattle.std.proofs.Common.{◌≡◌, ℕ, zero, suc, ◌+◌, ◌<◌, ◌≤◌, Bool, List, [], ◌∷◌}
use Rattle.std.proofs.Common.{◌++◌, length, take, drop, get_or, refl, ap, sym, ◌∙◌, subst, arith}
use Rattle.std.specs.Prelude.{Result, Ok, Err, IfOk}
use Rattle.std.proofs.Math.Seq.{take-suc}
use Rattle.std.proofs.lemmas.List.{take-append-drop}
use Rattle.ick_bits.specs.declared.memory.NoMemory.{NoMemory}
use Rattle.ick_code.specs.meaning.Move.{choice, ask, advance}
use Rattle.ick_backtrack.specs.Machine.{Machine}
use Rattle.ick_backtrack.specs.Asked.{Finish}
use Rattle.ick_backtrack.specs.Steps.{IsPlain, RunsOn, HasRun}
use Rattle.ick_runs.specs.declared.ordinary.Ran.{Ran}
use Rattle.ick_runs.specs.declared.ordinary.Ran.TheVariants.{Ended, Wants}
use Rattle.ick_explorer.specs.Runs.{ends, wants, run}
use Rattle.ick_explorer.specs.Paths.{Leads, RunsTo}
use Rattle.ick_explorer.specs.Walks.{EndsHere}
use Rattle.ick_runs.specs.Ordinary.{IsRan, IgnoresUnused, HasEnded, IsWanting}
use Rattle.ick_explorer.proofs.RunLaws.{Leads-on, Leads-choice, Leads-wants, Leads-ends}
use Rattle.ick_explorer.proofs.Walking.{after_step}

pub take_whole : (c : List Bool) (used : ℕ) → used ≡ length c → take used c ≡ c
take_whole [] zero e = refl
take_whole [] (suc k) e = refl
take_whole (x ∷ c) zero e = absurd (omega arith)
take_whole (x ∷ c) (suc k) e = ap (λ r. x ∷ r) (take_whole c k (omega arith))

-- as many steps as were made by themselves
pub runs_plain : (l : ℕ) (m₀ m m' : Machine) (c : List Bool) (n k : ℕ) → RunsTo l m₀ c m n →
    HasRun m k m' → n + k ≤ l → RunsTo l m₀ c m' (n + k)
runs_plain l m₀ m m' c n k h ran within = record {
  program = ap (λ x. x.program) ran.machine_is ∙ h.program;
  work = let w = h.work in let more = ap (λ x. x.work) ran.machine_is in omega (arith, w, more);
  leads = Leads-on m₀.program m₀.state l c m.state m'.state n k h.leads
      (subst (λ p. RunsOn IsPlain p m.state k m'.state) h.program ran.runs) within;
}

-- a step by a choice
pub runs_choice : (l : ℕ) (m₀ m m' : Machine) (c : List Bool) (n k : ℕ) (b : Bool) → RunsTo l m₀ c m n →
    ask m.program m.state ≡ choice k → n < l → m' ≡ after_step b m →
    RunsTo l m₀ (c ++ b ∷ []) m' (n + 1)
runs_choice l m₀ m m' c n k b h a lt e = subst (λ x. RunsTo l m₀ (c ++ b ∷ []) x (n + 1)) (sym e) (record {
  program = h.program;
  work = let w = h.work in omega arith;
  leads =
      subst (λ x. Leads m₀.program m₀.state l (c ++ b ∷ []) x (n + 1))
      (ap (λ p. advance p m.state b) (sym h.program))
      (Leads-choice m₀.program m₀.state l c m.state n k b h.leads (ap (λ p. ask p m.state) (sym h.program) ∙ a)
      lt);
})

-- .. by the next of the choices
pub runs_next : (l : ℕ) (m₀ m m' : Machine) (c : List Bool) (used n k : ℕ) (b : Bool) →
    RunsTo l m₀ (take used c) m n → ask m.program m.state ≡ choice k →
    n < l → used < length c → m' ≡ after_step (get_or c used b) m → RunsTo l m₀ (take (used + 1) c) m' (n + 1)
runs_next l m₀ m m' c used n k b h a lt some e =
    let next : take (used + 1) c ≡ take used c ++ get_or c used b ∷ [] = let s : used + 1 ≡ suc used =
    omega arith in ap (λ i. take i c) s ∙ take-suc c used b some in
    subst (λ x. RunsTo l m₀ x m' (n + 1)) (sym next)
    (runs_choice l m₀ m m' (take used c) n k (get_or c used b) h a lt e)

-- where the machine is at its end, what the run leaves over is what was not used
pub runs_end : (l : ℕ) (m₀ m : Machine) (c more : List Bool) (n : ℕ) (f : Finish) → RunsTo l m₀ c m n →
    EndsHere l m n f →
    run m₀.program m₀.state l (c ++ more) ≡ record { last = m.state; stop = ends f; steps = n; unused = more }
runs_end l m₀ m c more n f h here =
    subst (λ p. run p m₀.state l (c ++ more) ≡ record { last = m.state; stop = ends f; steps = n; unused = more })
    h.program
    (Leads-ends m₀.state l m c more n f (subst (λ p. Leads p m₀.state l c m.state n) (sym h.program) h.leads) here)

-- the answer at an end, for each list that begins with the used choices
ran_so : (l : ℕ) (m₀ m : Machine) (c : List Bool) (used n : ℕ) (f : Finish) → used ≤ length c →
    RunsTo l m₀ (take used c) m n → EndsHere l m n f → (r : Ran) → HasEnded m.state.output f used n r →
    IsRan c (run m₀.program m₀.state l c) r
ran_so l m₀ m c used n f le h here (Ended o e u k) (a, b, d, g) =
    let i : run m₀.program m₀.state l c
    ≡ record { last = m.state; stop = ends f; steps = n; unused = drop used c } =
    ap (run m₀.program m₀.state l) (sym (take-append-drop used c))
    ∙ runs_end l m₀ m (take used c) (drop used c) n f h here in (
      a ∙ sym (ap (λ x. x.last.output) i),
      ap (λ x. x.stop) i ∙ ap ends (sym b),
      g ∙ sym (ap (λ x. x.steps) i),
      subst (λ x. x ≤ length c) (sym d) le,
      ap (λ x. drop x c) d ∙ sym (ap (λ x. x.unused) i),
    )
ran_so l m₀ m c used n f le h here (Wants o k) a = absurd a

ignores : (l : ℕ) (m₀ m : Machine) (c : List Bool) (used n : ℕ) (f : Finish) →
    RunsTo l m₀ (take used c) m n → EndsHere l m n f → (r : Ran) → HasEnded m.state.output f used n r →
    IgnoresUnused m₀.program m₀.state l c r
ignores l m₀ m c used n f h here (Ended o e u k) (a, b, d, g) = λ x le same.
    ran_so l m₀ m x used n f (subst (λ i. i ≤ length x) d le)
    (subst (λ y. RunsTo l m₀ y m n) (sym (subst (λ i. take i x ≡ take i c) d same)) h) here (Ended o e u k)
    (a, b, d, g)
ignores l m₀ m c used n f h here (Wants o k) a = absurd a

-- what a run with given choices answers
pub record Answers (l : ℕ) (m₀ : Machine) (c : List Bool) (r : Result Ran NoMemory) : Type 0 where
  pub is_run : IfOk r (λ x. IsRan c (run m₀.program m₀.state l c) x)
  pub ignores_unused : IfOk r (λ x. IgnoresUnused m₀.program m₀.state l c x)

pub ran_ended : (l : ℕ) (m₀ m : Machine) (c : List Bool) (used n : ℕ) (f : Finish) → used ≤ length c →
    RunsTo l m₀ (take used c) m n → EndsHere l m n f → (r : Result Ran NoMemory) →
    IfOk r (λ x. HasEnded m.state.output f used n x) → Answers l m₀ c r
ran_ended l m₀ m c used n f le h here (Ok r) a = record {
  is_run = ran_so l m₀ m c used n f le h here r a;
  ignores_unused = ignores l m₀ m c used n f h here r a;
}
ran_ended l m₀ m c used n f le h here (Err x) a = record { is_run = tt; ignores_unused = tt }

pub ran_wants : (l : ℕ) (m₀ m : Machine) (c : List Bool) (used n k : ℕ) → used ≡ length c →
    RunsTo l m₀ (take used c) m n → ask m.program m.state ≡ choice k →
    n < l → (r : Result Ran NoMemory) → IfOk r (λ x. IsWanting m.state.output n x) → Answers l m₀ c r
ran_wants l m₀ m c used n k all h a lt (Ok (Wants o i)) (b, d) =
    let e : run m₀.program m₀.state l c ≡ record { last = m.state; stop = wants; steps = n; unused = [] } =
    ap (run m₀.program m₀.state l) (sym (take_whole c used all))
    ∙ Leads-wants m₀.program m₀.state l (take used c) m.state n k h.leads
    (ap (λ p. ask p m.state) (sym h.program) ∙ a) lt in
    record {
      is_run = (b ∙ sym (ap (λ x. x.last.output) e), ap (λ x. x.stop) e, d ∙ sym (ap (λ x. x.steps) e));
      ignores_unused = tt;
    }
ran_wants l m₀ m c used n k all h a lt (Ok (Ended o f u i)) b = absurd b
ran_wants l m₀ m c used n k all h a lt (Err x) b = record { is_run = tt; ignores_unused = tt }
