-- The choices that a list of words draws: exactly one list for each program, state and limit.
use Rattle.std.proofs.Common.{◌≡◌, ℕ, zero, suc, ◌+◌, ◌<◌, ◌≤◌, inl, inr, Bool, true, false, List}
use Rattle.std.proofs.Common.{[], ◌∷◌, ◌++◌, length, take, get_or, refl, ap, sym, ◌∙◌, subst, arith}
use Rattle.std.proofs.Math.Seq.{get_or-append_seam, take-append_seam}
use Rattle.std.proofs.lemmas.List.{get_or_append_left, take-append-le, length-append, append-nil}
use Rattle.std.proofs.Math.Nat.{eq-or-lt_of_le}
use Rattle.ick_code.specs.meaning.State.{State}
use Rattle.ick_code.specs.meaning.Move.{Asking, plain, choice, ended, ask, advance}
use Rattle.ick_backtrack.specs.Machine.{Program, Machine}
use Rattle.ick_backtrack.specs.Asked.{Finish}
use Rattle.ick_explorer.specs.Runs.{ends, run, stepped, IsWhole, IsEnd}
use Rattle.ick_explorer.specs.Order.{IsBelow}
use Rattle.ick_explorer.specs.Paths.{Leads, RunsTo}
use Rattle.ick_explorer.specs.Walks.{EndsHere}
use Rattle.ick_runs.specs.Draws.{IsDrawn, AreDrawn, means_done}
use Rattle.ick_explorer.proofs.RunLaws.{run-ended, run-plain, run-choice, run-wants, limit-end, limit-unused, Leads-wants}
use Rattle.ick_explorer.proofs.RunLaws.{compared, use-wants, wants-stops}
use Rattle.ick_runs.proofs.OrdinaryLaws.{runs_end}

-- a choice is asked at one chance
same_chance : (a b : ℕ) → choice a ≡ choice b → a ≡ b
same_chance a b e = cc

-- choices that are drawn are so with one more, where the run asks it
pub drawn-more : (p : Program) (s : State) (l : ℕ) (word : ℕ → ℕ) (c : List Bool) (t : State) (n chance : ℕ)
    (b : Bool) → AreDrawn p s l word c → Leads p s l c t n → ask p t ≡ choice chance → n < l →
    b ≡ means_done (word (length c)) chance → AreDrawn p s l word (c ++ b ∷ [])
drawn-more p s l word c t n chance b h w a lt e = λ k other below asked.
    let size : length (c ++ b ∷ []) ≡ length c + 1 = length-append c (b ∷ []) in
    let within : k ≤ length c = omega arith in
    elim (eq-or-lt_of_le within) [
      | inr less ↦ get_or_append_left c (b ∷ []) false k less
          ∙ h k other less
          (sym (ap (λ x. ask p (run p s l x).last) (take-append-le k c (b ∷ []) (omega arith))) ∙ asked)
      | inl last ↦
          let taken : take k (c ++ b ∷ []) ≡ c =
          ap (λ i. take i (c ++ b ∷ [])) last ∙ take-append_seam c (b ∷ []) in
          let here : ask p (run p s l (take k (c ++ b ∷ []))).last ≡ choice chance =
          ap (λ x. ask p (run p s l x).last) taken
          ∙ (ap (λ r. ask p r.last) (Leads-wants p s l c t n chance w a lt) ∙ a) in
          ap (λ i. get_or (c ++ b ∷ []) i false) last ∙ (get_or-append_seam c b [] false
          ∙ (e ∙ (ap (λ i. means_done (word i) chance) (sym last)
          ∙ ap (means_done (word k)) (same_chance chance other (sym here ∙ asked)))))
    ]

pub none-drawn : (p : Program) (s : State) (l : ℕ) (word : ℕ → ℕ) → AreDrawn p s l word []
none-drawn p s l word = λ k chance h a. absurd (omega arith)

-- the choices of a run that has ended
pub drawn-whole : (l : ℕ) (word : ℕ → ℕ) (m₀ m : Machine) (c : List Bool) (n : ℕ) (f : Finish) →
    AreDrawn m₀.program m₀.state l word c → RunsTo l m₀ c m n → EndsHere l m n f →
    IsDrawn m₀.program m₀.state l word c
drawn-whole l word m₀ m c n f h w here =
    let i : run m₀.program m₀.state l c ≡ record { last = m.state; stop = ends f; steps = n; unused = [] } =
    ap (run m₀.program m₀.state l) (sym (append-nil c)) ∙ runs_end l m₀ m c [] n f w here in
    record {
      whole = record { at_end = subst (λ r. IsEnd r.stop) (sym i) tt; all_used = ap (λ r. r.unused) i };
      drawn = h;
    }

-- where one list is below another, they go apart after a common beginning
record Parts (c d : List Bool) : Type 0 where
  before : List Bool
  c_after : List Bool
  d_after : List Bool
  c_is : c ≡ before ++ false ∷ c_after
  d_is : d ≡ before ++ true ∷ d_after

parts_under : (b : Bool) (c d : List Bool) → Parts c d → Parts (b ∷ c) (b ∷ d)
parts_under b c d h = record {
  before = b ∷ h.before;
  c_after = h.c_after;
  d_after = h.d_after;
  c_is = ap (λ x. b ∷ x) h.c_is;
  d_is = ap (λ x. b ∷ x) h.d_is;
}

parts_of : (c d : List Bool) → IsBelow c d → Parts c d
parts_of [] d h = absurd h
parts_of (b ∷ c) [] h = absurd (below-nil b c h)
  where
    below-nil : (b : Bool) (c : List Bool) → IsBelow (b ∷ c) [] → ⊥
    below-nil true c h = h
    below-nil false c h = h
parts_of (false ∷ c) (true ∷ d) h = record { before = []; c_after = c; d_after = d; c_is = refl; d_is = refl }
parts_of (true ∷ c) (false ∷ d) h = absurd h
parts_of (false ∷ c) (false ∷ d) h = parts_under false c d (parts_of c d h)
parts_of (true ∷ c) (true ∷ d) h = parts_under true c d (parts_of c d h)

-- what is drawn right after a beginning
drawn_at : (p : Program) (s : State) (l : ℕ) (word : ℕ → ℕ) (c before after : List Bool) (b : Bool)
    (chance : ℕ) → IsDrawn p s l word c → c ≡ before ++ b ∷ after →
    ask p (run p s l before).last ≡ choice chance → b ≡ means_done (word (length before)) chance
drawn_at p s l word c before after b chance h e a =
    let size : length c ≡ length before + suc (length after) = ap length e ∙ length-append before (b ∷ after) in
    let taken : take (length before) c ≡ before =
    ap (take (length before)) e ∙ take-append_seam before (b ∷ after) in
    sym (get_or-append_seam before b after false) ∙ (ap (λ x. get_or x (length before) false) (sym e)
    ∙ h.drawn (length before) chance (omega arith) (ap (λ x. ask p (run p s l x).last) taken ∙ a))

-- no drawn list is below another
never_below : (p : Program) (s : State) (l : ℕ) (word : ℕ → ℕ) (c d : List Bool) → IsDrawn p s l word c →
    IsDrawn p s l word d → IsBelow c d → ⊥
never_below p s l word c d h k b =
    let r = parts_of c d b in
    let u : (run p s l (r.before ++ false ∷ r.c_after)).unused ≡ [] =
    subst (λ x. (run p s l x).unused ≡ []) r.c_is h.whole.all_used in
    let stops = wants-stops p s l r.before (use-wants p s l r.before false r.c_after u) in
    let x : false ≡ true =
    drawn_at p s l word c r.before r.c_after false stops.asks.0 h r.c_is stops.asks.1
    ∙ sym (drawn_at p s l word d r.before r.d_after true stops.asks.0 k r.d_is stops.asks.1) in
    cc

pub one_drawn : (p : Program) (s : State) (l : ℕ) (word : ℕ → ℕ) (c d : List Bool) → IsDrawn p s l word c →
    IsDrawn p s l word d → c ≡ d
one_drawn p s l word c d h k = elim (compared p s l c d h.whole k.whole) [
  | inl e ↦ e
  | inr y ↦
      elim y [
        | inl x ↦ absurd (never_below p s l word c d h k x)
        | inr x ↦
            absurd (never_below p s l word d c k h x)
      ]
]

stepped_whole : (p : Program) (s s' : State) (l l' : ℕ) (c c' : List Bool) →
    run p s l c ≡ stepped (run p s' l' c') → IsWhole p s' l' c' → IsWhole p s l c
stepped_whole p s s' l l' c c' e w = record {
  at_end = subst (λ r. IsEnd r.stop) (sym e) w.at_end;
  all_used = ap (λ r. r.unused) e ∙ w.all_used;
}

drawn_by : (p : Program) (s : State) (l : ℕ) (word : ℕ → ℕ) (a : Asking) → ask p s ≡ a →
    ((b : Bool) (word' : ℕ → ℕ) → (c : List Bool) × IsDrawn p (advance p s b) l word' c) →
    (c : List Bool) × IsDrawn p s (suc l) word c
drawn_by p s l word (ended e) h ih =
    let i = run-ended p s (suc l) [] e h in (
      [],
      record {
        whole = record { at_end = subst (λ r. IsEnd r.stop) (sym i) tt; all_used = ap (λ r. r.unused) i };
        drawn = none-drawn p s (suc l) word;
      },
    )
drawn_by p s l word plain h ih =
    let r = ih false word in (
      r.0,
      record {
        whole = stepped_whole p s (advance p s false) (suc l) l r.0 r.0 (run-plain p s l r.0 h) r.1.whole;
        drawn =
            λ k chance below asked.
            r.1.drawn k chance below (sym (ap (λ x. ask p x.last) (run-plain p s l (take k r.0) h)) ∙ asked);
      },
    )
drawn_by p s l word (choice n) h ih =
    let b = means_done (word 0) n in
    let r = ih b (λ k. word (suc k)) in (
      b ∷ r.0,
      record {
        whole = stepped_whole p s (advance p s b) (suc l) l (b ∷ r.0) r.0 (run-choice p s l n b r.0 h) r.1.whole;
        drawn = first_drawn p s l word n b r.0 h refl r.1.drawn;
      },
    )
  where
    first_drawn : (p : Program) (s : State) (l : ℕ) (word : ℕ → ℕ) (n : ℕ) (b : Bool) (c : List Bool) →
        ask p s ≡ choice n → b ≡ means_done (word 0) n →
        AreDrawn p (advance p s b) l (λ k. word (suc k)) c → AreDrawn p s (suc l) word (b ∷ c)
    first_drawn p s l word n b c h e d zero chance below asked =
        e ∙ ap (means_done (word 0))
        (same_chance n chance (sym h ∙ (sym (ap (λ x. ask p x.last) (run-wants p s l n h)) ∙ asked)))
    first_drawn p s l word n b c h e d (suc k) chance below asked =
        d k chance (omega arith) (sym (ap (λ x. ask p x.last) (run-choice p s l n b (take k c) h)) ∙ asked)

-- each list of words draws one
pub some_drawn : (p : Program) (s : State) (l : ℕ) (word : ℕ → ℕ) → (c : List Bool) × IsDrawn p s l word c
some_drawn p s zero word = (
  [],
  record {
    whole = record { at_end = limit-end p s []; all_used = limit-unused p s [] };
    drawn = none-drawn p s zero word;
  },
)
some_drawn p s (suc l) word = drawn_by p s l word (ask p s) refl (λ b word'. some_drawn p (advance p s b) l word')
