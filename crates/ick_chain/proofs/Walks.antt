-- Proves where choices lead along the edges of a chain.
use Prim.Native.Nat.{zero, suc}
use Rattle.std.proofs.Common.{◌≡◌, inl, inr, ℕ, ◌+◌, ◌-◌, ◌<◌, ◌≤◌, Bool, true, false, List, [], ◌∷◌, ◌++◌}
use Rattle.std.proofs.Common.{if◌then◌else◌, length, take, slice_index_or, refl, ap, sym, ◌∙◌, subst, arith}
use Rattle.std.proofs.Common.{append_assoc, length-append}
use Rattle.ick_code.specs.meaning.State.{State}
use Rattle.ick_code.specs.meaning.Move.{plain, choice}
use Rattle.ick_outcomes.specs.Programs.{ask, advance, Program, IsPlain, RunsOn, run}
use Rattle.ick_outcomes.proofs.ProgramRuns.{chance_between, Leads-start, Leads-plain, Leads-on, Leads-choice}
use Rattle.ick_explorer.specs.Paths.{later}
use Rattle.ick_explorer.specs.Runs.{Execution}
use Rattle.ick_chain.specs.declared.chain.Edge.{Edge}
use Rattle.ick_chain.specs.declared.chain.Fork.{Fork}
use Rattle.ick_chain.specs.declared.chain.Node.{Node}
use Rattle.ick_chain.specs.Chains.{IsFork, IsNode}
use Rattle.ick_chain.specs.Shown.{LeadTo, LeadAlong}
use Rattle.ick_outcomes.proofs.Lists.{take-all, take-more}
use Rattle.ick_chain.proofs.RowLaws.{got_at}

lead_start : (p : Program) (s : State) → LeadTo p s [] s
lead_start p s = record { steps = 0; leads = λ l le. Leads-start p s l }

lead_plain : (p : Program) (s : State) (c : List Bool) (t u : State) (k : ℕ) → LeadTo p s c t → ask p t ≡ plain →
    RunsOn p (advance p t false) k u → LeadTo p s c u
lead_plain p s c t u k h a r = record {
  steps = h.steps + 1 + k;
  leads = λ l le.
      let x : h.steps ≤ l = omega (arith, le) in
      let y : h.steps < l = omega (arith, le) in
      Leads-on p s l c (advance p t false) u (h.steps + 1) k (Leads-plain p s l c t h.steps (h.leads l x) a y) r le;
}

lead_choice : (p : Program) (s : State) (c : List Bool) (t u : State) (k n : ℕ) (b : Bool) → LeadTo p s c t →
    ask p t ≡ choice n → RunsOn p (advance p t b) k u → LeadTo p s (c ++ b ∷ []) u
lead_choice p s c t u k n b h a r = record {
  steps = h.steps + 1 + k;
  leads = λ l le.
      let x : h.steps ≤ l = omega (arith, le) in
      let y : h.steps < l = omega (arith, le) in
      Leads-on p s l (c ++ b ∷ []) (advance p t b) u (h.steps + 1) k
      (Leads-choice p s l c t h.steps n b (h.leads l x) a y) r le;
}

-- along the edge of a node that asks nothing
pub lead_pass : (nodes : List Node) (from : ℕ) (c : List Bool) (at : ℕ) (d : Node) (f : Fork) → at < length nodes →
    ((p : Program) (seen : ℕ → State) (s : State) → IsNode p seen s (slice_index_or nodes at d) → IsFork p seen s f) →
    f.chance ≡ 0 → LeadAlong nodes from c at → LeadAlong nodes from c f.zero.to
lead_pass nodes from c at d f lt h z k p seen chain =
    by_fork (h p seen (seen at) (chain at (slice_index_or nodes at d) (got_at nodes at d lt)))
  where
    by_fork : IsFork p seen (seen at) f → LeadTo p (seen from) c (seen f.zero.to)
    by_fork (inl i) =
        let b = chance_between p (seen at) f.chance i.asks in absurd (let y : ⊥ = omega (arith, b.0, z) in y)
    by_fork (inr i) =
        lead_plain p (seen from) c (seen at) (seen f.zero.to) (f.zero.steps - 1) (k p seen chain) i.asks i.zero.runs

-- along the edge of a choice
pub lead_on : (nodes : List Node) (from : ℕ) (cs : List Bool) (used at to : ℕ) (d : Node) (f : Fork) (b : Bool)
    (e : Edge) → at < length nodes → used < length cs →
    ((p : Program) (seen : ℕ → State) (s : State) → IsNode p seen s (slice_index_or nodes at d) → IsFork p seen s f) →
    (f.chance ≡ 0 → ⊥) → b ≡ slice_index_or cs used false → e ≡ (if b then f.one else f.zero) → to ≡ e.to →
    LeadAlong nodes from (take used cs) at → LeadAlong nodes from (take (used + 1) cs) to
lead_on nodes from cs used at to d f b e lt lu h z g i j k p seen chain =
    let m : take (used + 1) cs ≡ take used cs ++ b ∷ [] =
    (let n : used + 1 ≡ suc used = omega arith in ap (λ x. take x cs) n)
    ∙ (take-more cs used false lu ∙ ap (λ x. take used cs ++ x ∷ []) (sym g)) in
    subst (λ x. LeadTo p (seen from) x (seen to)) (sym m)
    (subst (λ x. LeadTo p (seen from) (take used cs ++ b ∷ []) (seen x)) (sym (j ∙ ap (λ (x : Edge). x.to) i))
    (by_fork b (h p seen (seen at) (chain at (slice_index_or nodes at d) (got_at nodes at d lt)))))
  where
    by_fork : (b : Bool) → IsFork p seen (seen at) f →
        LeadTo p (seen from) (take used cs ++ b ∷ []) (seen (if b then f.one else f.zero).to)
    by_fork true (inl i) =
        lead_choice p (seen from) (take used cs) (seen at) (seen f.one.to) (f.one.steps - 1) f.chance true
        (k p seen chain) i.asks i.one.runs
    by_fork false (inl i) =
        lead_choice p (seen from) (take used cs) (seen at) (seen f.zero.to) (f.zero.steps - 1) f.chance false
        (k p seen chain) i.asks i.zero.runs
    by_fork b (inr i) = absurd (z i.chance)

pub lead_first : (nodes : List Node) (from : ℕ) (cs : List Bool) → LeadAlong nodes from (take 0 cs) from
lead_first nodes from [] p seen chain = lead_start p (seen from)
lead_first nodes from (b ∷ cs) p seen chain = lead_start p (seen from)

-- all choices are used
pub lead_done : (nodes : List Node) (from : ℕ) (cs : List Bool) (used at to : ℕ) →
    LeadAlong nodes from (take used cs) at → at ≡ to → used ≡ length cs → LeadAlong nodes from cs to
lead_done nodes from cs used at to h e f p seen chain =
    subst (λ x. LeadTo p (seen from) cs (seen x)) e
    (subst (λ x. LeadTo p (seen from) x (seen at)) (take-all cs used (omega (arith, f))) (h p seen chain))

-- choices behind choices
later_later : (a b : ℕ) (r : Execution) → later a (later b r) ≡ later (a + b) r
later_later a b r =
    ap (λ (z : ℕ). record r { steps = z }) (let e : a + (b + r.steps) ≡ a + b + r.steps = omega arith in e)

pub lead_behind : (p : Program) (s t u : State) (c d : List Bool) → LeadTo p s c t → LeadTo p t d u →
    LeadTo p s (c ++ d) u
lead_behind p s t u c d h k = record {
  steps = h.steps + k.steps;
  leads = λ l le. record {
    within = le;
    goes_on = λ m more e.
        let a : h.steps ≤ l = omega (arith, le) in
        let b : h.steps + (k.steps + m) ≡ l = omega (arith, e) in
        let n : k.steps ≤ k.steps + m = omega arith in
        ap (λ z. run p s l z) (append_assoc c d more)
        ∙ ((h.leads l a).goes_on (k.steps + m) (d ++ more) b
        ∙ (ap (λ z. later h.steps z) ((k.leads (k.steps + m) n).goes_on m more refl)
        ∙ later_later h.steps k.steps (run p u m more)));
  };
}

-- choices again and again
again : ℕ → List Bool → List Bool
again zero c = []
again (suc n) c = c ++ again n c

lead_again : (p : Program) (t : State) (c : List Bool) (n : ℕ) → LeadTo p t c t → LeadTo p t (again n c) t
unfolding again
lead_again p t c zero h = lead_start p t
lead_again p t c (suc n) h = lead_behind p t t t c (again n c) h (lead_again p t c n h)

again-long : (c : List Bool) (n : ℕ) → 0 < length c → n ≤ length (again n c)
unfolding again
again-long c zero h = omega arith
again-long c (suc n) h =
    let k = again-long c n h in let e = length-append c (again n c) in omega (arith, h, k, e)

-- a way to a round, the round, and a way from it: for each number there are choices that are more
pub lead_round : (p : Program) (s t u : State) (before around behind : List Bool) → LeadTo p s before t →
    LeadTo p t around t → LeadTo p t behind u → 0 < length around → (n : ℕ) →
    (c : List Bool) × (n < length c) × LeadTo p s c u
lead_round p s t u before around behind h k j some n =
    let turns = again (suc n) around in
    let a = again-long around (suc n) some in
    let b = length-append before turns in
    let e = length-append (before ++ turns) behind in (
      (before ++ turns) ++ behind,
      omega (arith, a, b, e),
      lead_behind p s t u (before ++ turns) behind
          (lead_behind p s t t before turns h (lead_again p t around (suc n) k)) j,
    )
