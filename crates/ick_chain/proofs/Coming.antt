-- Proves that each run with an outcome comes along the edges of a chain to a node that ends with it.
use Prim.Native.Nat.{zero, suc}
use Rattle.std.proofs.Common.{◌≡◌, inl, inr, ℕ, ◌+◌, ◌-◌, ◌<◌, ◌≤◌, Bool, true, false, List, [], ◌∷◌, ◌++◌}
use Rattle.std.proofs.Common.{Some, None, length, slice_get, refl, ap, sym, ◌∙◌, subst, arith}
use Rattle.std.proofs.Common.{append_assoc}
use Rattle.std.proofs.lemmas.List.{append-nil}
use Rattle.ick_code.specs.meaning.State.{State, Ending}
use Rattle.ick_code.specs.meaning.Move.{plain, choice, ended}
use Rattle.ick_outcomes.specs.Programs.{ask, advance, Program, IsPlain, RunsOn, run}
use Rattle.ick_outcomes.proofs.ProgramRuns.{chance_between, Leads-start, Leads-plain, Leads-choice, Leads-on, run-ended}
use Rattle.ick_outcomes.proofs.ProgramRuns.{run-wants, limit-going}
use Rattle.ick_backtrack.specs.Asked.{finished, at_limit, IsGoing}
use Rattle.ick_explorer.specs.Lines.{end_text}
use Rattle.ick_explorer.specs.Paths.{later}
use Rattle.ick_explorer.specs.Runs.{Execution, IsEnd}
use Rattle.ick_outcomes.specs.Tallies.{stop_text}
use Rattle.ick_chain.specs.declared.chain.Fork.{Fork}
use Rattle.ick_chain.specs.declared.chain.Node.{Node}
use Rattle.ick_chain.specs.declared.chain.Node.TheVariants.{Ends, Goes, Stuck}
use Rattle.ick_chain.specs.Places.{Forks, IsFull}
use Rattle.ick_chain.specs.Shown.{HasOutcome, IsShown}
use Rattle.ick_chain.specs.Ways.{IsForkOf, IsWay}

-- a run is one behind an edge, and longer
edge-plain : (p : Program) (t u : State) (k l : ℕ) (c : List Bool) → ask p t ≡ plain →
    RunsOn p (advance p t false) k u → run p t (0 + 1 + k + l) c ≡ later (0 + 1 + k) (run p u l c)
edge-plain p t u k l c a r =
    let m = 0 + 1 + k + l in
    let x : 0 < m = omega arith in
    let y : 0 + 1 + k ≤ m = omega arith in
    (Leads-on p t m [] (advance p t false) u (0 + 1) k (Leads-plain p t m [] t 0 (Leads-start p t m) a x) r y).goes_on
    l c refl

edge-choice : (p : Program) (t u : State) (k l n : ℕ) (b : Bool) (c : List Bool) → ask p t ≡ choice n →
    RunsOn p (advance p t b) k u → run p t (0 + 1 + k + l) (b ∷ c) ≡ later (0 + 1 + k) (run p u l c)
edge-choice p t u k l n b c a r =
    let m = 0 + 1 + k + l in
    let x : 0 < m = omega arith in
    let y : 0 + 1 + k ≤ m = omega arith in
    (Leads-on p t m (b ∷ []) (advance p t b) u (0 + 1) k (Leads-choice p t m [] t 0 n b (Leads-start p t m) a x) r
    y).goes_on l c refl

-- so the run behind the edge has the same outcome
outcome-on : (p : Program) (t u : State) (m l j : ℕ) (output end : List ℕ) (c d : List Bool) →
    run p t m c ≡ later j (run p u l d) → HasOutcome p t m output end c → HasOutcome p u l output end d
outcome-on p t u m l j output end c d e h = record {
  whole = record {
    at_end = subst (λ (r : Execution). IsEnd r.stop) e h.whole.at_end;
    all_used = sym (ap (λ (r : Execution). r.unused) e) ∙ h.whole.all_used;
  };
  same_output = sym (ap (λ (r : Execution). r.last.output) e) ∙ h.same_output;
  same_end = sym (ap (λ (r : Execution). stop_text r.stop) e) ∙ h.same_end;
}

-- the outcome is there under each limit from one on
Has : Program → State → List ℕ → List ℕ → List Bool → ℕ → Type 0
Has p t output end d least = (l : ℕ) → least ≤ l → HasOutcome p t l output end d

has-plain : (p : Program) (t u : State) (k least : ℕ) (output end : List ℕ) (d : List Bool) → ask p t ≡ plain →
    RunsOn p (advance p t false) k u → Has p t output end d least →
    Has p u output end d (least - (0 + 1 + k))
unfolding Has
has-plain p t u k least output end d a r h l le =
    outcome-on p t u (0 + 1 + k + l) l (0 + 1 + k) output end d d (edge-plain p t u k l d a r)
    (h (0 + 1 + k + l) (omega (arith, le)))

has-choice : (p : Program) (t u : State) (k least n : ℕ) (output end : List ℕ) (b : Bool) (d : List Bool) →
    ask p t ≡ choice n → RunsOn p (advance p t b) k u → Has p t output end (b ∷ d) least →
    Has p u output end d (least - (0 + 1 + k))
unfolding Has
has-choice p t u k least n output end b d a r h l le =
    outcome-on p t u (0 + 1 + k + l) l (0 + 1 + k) output end (b ∷ d) d (edge-choice p t u k l n b d a r)
    (h (0 + 1 + k + l) (omega (arith, le)))

pub shown_plain : (p : Program) (t u : State) (k : ℕ) (output end : List ℕ) (d : List Bool) → ask p t ≡ plain →
    RunsOn p (advance p t false) k u → IsShown p t output end d → IsShown p u output end d
unfolding Has
shown_plain p t u k output end d a r h =
    record { least = h.least - (0 + 1 + k); has = has-plain p t u k h.least output end d a r h.has }

pub shown_choice : (p : Program) (t u : State) (k n : ℕ) (output end : List ℕ) (b : Bool) (d : List Bool) →
    ask p t ≡ choice n → RunsOn p (advance p t b) k u → IsShown p t output end (b ∷ d) → IsShown p u output end d
unfolding Has
shown_choice p t u k n output end b d a r h =
    record { least = h.least - (0 + 1 + k); has = has-choice p t u k h.least n output end b d a r h.has }

-- a run that goes on has no other outcome than that of the limit at first
not-yet : (p : Program) (t : State) (output end : List ℕ) (d : List Bool) → IsGoing (ask p t) →
    (end ≡ end_text at_limit → ⊥) → HasOutcome p t 0 output end d → ⊥
not-yet p t output end d g f h =
    f (sym h.same_end ∙ ap (λ (r : Execution). stop_text r.stop) (limit-going p t d (ask p t) refl g))

got-one : {A : Type 0} (xs : List A) (i : ℕ) → i < length xs → (x : A) × (slice_get xs i ≡ Some x)
got-one [] i lt = absurd (let z : ⊥ = omega (arith, lt) in z)
got-one (x ∷ xs) zero lt = (x, refl)
got-one (x ∷ xs) (suc i) lt = got-one xs i (omega (arith, lt))

got-within : {A : Type 0} (xs : List A) (i : ℕ) (x : A) → slice_get xs i ≡ Some x → i < length xs
got-within [] i x h = let z : None ≡ Some x = h in cc
got-within (y ∷ xs) zero x h = omega arith
got-within (y ∷ xs) (suc i) x h = let k = got-within xs i x h in omega (arith, k)

module _ (p : Program) (ss : List State) (nodes : List Node) (full : IsFull p ss nodes)
    (G : ℕ → Type 0) (R : List Bool → List Bool → Type 0) (w : ℕ → List Bool)
    (same : (c : List Bool) → R c c) (trans : (c d e : List Bool) → R c d → R d e → R c e)
    (more : (c d e : List Bool) → R c d → R (c ++ e) (d ++ e))
    (ways : (i : ℕ) (n : Node) (f : Fork) → slice_get nodes i ≡ Some n → IsForkOf n f → IsWay G R w i f)
    (output end : List ℕ) (not_limit : end ≡ end_text at_limit → ⊥) where
  -- a node that ends with the outcome; its word is related to the choices of the run behind that of the node i
  pub record Comes (i : ℕ) (d : List Bool) : Type 0 where
    pub at : ℕ
    pub state : State
    pub ending : Ending
    pub there : slice_get ss at ≡ Some state
    pub node : slice_get nodes at ≡ Some Ends
    pub asks : ask p state ≡ ended ending
    pub same_output : state.output ≡ output
    pub same_end : end_text (finished ending) ≡ end
    pub back : G at → G i × R (w at) (w i ++ d)

  comes-here : (i least : ℕ) (t : State) (e : Ending) (d : List Bool) → slice_get ss i ≡ Some t →
      slice_get nodes i ≡ Some Ends → ask p t ≡ ended e → Has p t output end d least → Comes i d
  unfolding Has
  comes-here i least t e d st nd a h =
      let o = h least (omega arith) in
      let r = run-ended p t least d e a in
      let none : d ≡ [] = sym (ap (λ (x : Execution). x.unused) r) ∙ o.whole.all_used in
      record {
        at = i;
        state = t;
        ending = e;
        there = st;
        node = nd;
        asks = a;
        same_output = sym (ap (λ (x : Execution). x.last.output) r) ∙ o.same_output;
        same_end = sym (ap (λ (x : Execution). stop_text x.stop) r) ∙ o.same_end;
        back = λ g. (g, subst (R (w i)) (sym (ap (λ z. w i ++ z) none ∙ append-nil (w i))) (same (w i)));
      }

  comes-plain : (i j : ℕ) (d : List Bool) → (G j → G i × R (w j) (w i)) → Comes j d → Comes i d
  comes-plain i j d f c = record {
    at = c.at;
    state = c.state;
    ending = c.ending;
    there = c.there;
    node = c.node;
    asks = c.asks;
    same_output = c.same_output;
    same_end = c.same_end;
    back = λ g.
        let x = c.back g in
        let y = f x.0 in
        (y.0, trans (w c.at) (w j ++ d) (w i ++ d) x.1 (more (w j) (w i) d y.1));
  }

  comes-choice : (i j : ℕ) (b : Bool) (d : List Bool) → (G j → G i × R (w j) (w i ++ b ∷ [])) → Comes j d →
      Comes i (b ∷ d)
  comes-choice i j b d f c = record {
    at = c.at;
    state = c.state;
    ending = c.ending;
    there = c.there;
    node = c.node;
    asks = c.asks;
    same_output = c.same_output;
    same_end = c.same_end;
    back = λ g.
        let x = c.back g in
        let y = f x.0 in (
          y.0,
          subst (R (w c.at)) (append_assoc (w i) (b ∷ []) d)
              (trans (w c.at) (w j ++ d) ((w i ++ b ∷ []) ++ d) x.1 (more (w j) (w i ++ b ∷ []) d y.1)),
        );
  }

  comes-fork : (fuel i least : ℕ) (t : State) (n : Node) (f : Fork) (d : List Bool) → slice_get nodes i ≡ Some n →
      IsForkOf n f → Forks p ss t f → least ≤ fuel → Has p t output end d least →
      ((j least' : ℕ) (u : State) (d' : List Bool) → slice_get ss j ≡ Some u → suc least' ≤ fuel →
      Has p u output end d' least' → Comes j d') → Comes i d
  unfolding Has
  comes-fork zero i least t n f d nd fk forks le h ih =
      absurd (not-yet p t output end d (by_fork forks) not_limit (h 0 le))
    where
      by_fork : Forks p ss t f → IsGoing (ask p t)
      by_fork (inl c) = subst IsGoing (sym c.asks) tt
      by_fork (inr c) = subst IsGoing (sym c.asks) tt
  comes-fork (suc fuel) i least t n f d nd fk (inr c) le h ih =
      comes-plain i f.zero.to d ((ways i n f nd fk).plain_way c.chance)
      (ih f.zero.to (least - (0 + 1 + (f.zero.steps - 1))) c.zero.to d c.zero.there (omega (arith, le))
      (has-plain p t c.zero.to (f.zero.steps - 1) least output end d c.asks c.zero.runs h))
  comes-fork (suc fuel) i least t n f d nd fk (inl c) le h ih = by_choices d h
    where
      chance-some : f.chance ≡ 0 → ⊥
      chance-some z = let b = chance_between p t f.chance c.asks in (let y : ⊥ = omega (arith, b.0, z) in y)

      by_choices : (d : List Bool) → Has p t output end d least → Comes i d
      by_choices [] h =
          let o = h (suc least) (omega arith) in
          absurd (subst (λ (r : Execution). IsEnd r.stop) (run-wants p t least f.chance c.asks) o.whole.at_end)
      by_choices (false ∷ d) h =
          comes-choice i f.zero.to false d ((ways i n f nd fk).choice_way chance-some false)
          (ih f.zero.to (least - (0 + 1 + (f.zero.steps - 1))) c.zero.to d c.zero.there (omega (arith, le))
          (has-choice p t c.zero.to (f.zero.steps - 1) least f.chance output end false d c.asks c.zero.runs h))
      by_choices (true ∷ d) h =
          comes-choice i f.one.to true d ((ways i n f nd fk).choice_way chance-some true)
          (ih f.one.to (least - (0 + 1 + (f.one.steps - 1))) c.one.to d c.one.there (omega (arith, le))
          (has-choice p t c.one.to (f.one.steps - 1) least f.chance output end true d c.asks c.one.runs h))

  comes-at : (fuel i least : ℕ) (t : State) (d : List Bool) → slice_get ss i ≡ Some t → least ≤ fuel →
      Has p t output end d least →
      ((j least' : ℕ) (u : State) (d' : List Bool) → slice_get ss j ≡ Some u → suc least' ≤ fuel →
      Has p u output end d' least' → Comes j d') → Comes i d
  comes-at fuel i least t d st le h ih =
      let n = got-one nodes i (let x = got-within ss i t st in let y = full.long in omega (arith, x, y)) in
      by_node n.0 n.1
    where
      by_node : (n : Node) → slice_get nodes i ≡ Some n → Comes i d
      by_node Ends g = let a = full.each i Ends t g st in comes-here i least t a.0 d st g a.1 h
      by_node (Goes f) g = comes-fork fuel i least t (Goes f) f d g refl (full.each i (Goes f) t g st) le h ih
      by_node (Stuck f) g = comes-fork fuel i least t (Stuck f) f d g refl (full.each i (Stuck f) t g st) le h ih

  comes-by : (fuel i least : ℕ) (t : State) (d : List Bool) → slice_get ss i ≡ Some t → least ≤ fuel →
      Has p t output end d least → Comes i d
  comes-by zero i least t d st le h =
      comes-at zero i least t d st le h (λ j l u e a b k. absurd (let z : ⊥ = omega (arith, b) in z))
  comes-by (suc fuel) i least t d st le h =
      comes-at (suc fuel) i least t d st le h (λ j l u e a b k. comes-by fuel j l u e a (omega (arith, b)) k)

  -- each run with the outcome comes to such a node
  pub comes : (i : ℕ) (t : State) (d : List Bool) → slice_get ss i ≡ Some t → IsShown p t output end d → Comes i d
  unfolding Has
  comes i t d st h = comes-by h.least i h.least t d st (omega arith) h.has
