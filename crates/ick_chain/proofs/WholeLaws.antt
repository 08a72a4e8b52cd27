-- Proves that a full chain has each state that can be reached and asks, or has ended.
use Prim.Native.Nat.{zero, suc}
use Rattle.std.proofs.Common.{◌≡◌, inl, inr, ℕ, ◌-◌, ◌<◌, Bool, true, false, List, [], ◌∷◌, Some}
use Rattle.std.proofs.Common.{length, slice_get, slice_index_or, refl, ap, sym, ◌∙◌, subst, arith}
use Rattle.ick_code.specs.meaning.State.{State}
use Rattle.ick_code.specs.meaning.Move.{plain}
use Rattle.ick_code.proofs.AskLaws as asking
use Rattle.ick_backtrack.specs.Asked.{IsGoing}
use Rattle.ick_outcomes.specs.Programs.{Program, IsPlain, RunsOn, advance, after_steps, ask, hushed}
use Rattle.ick_chain.specs.declared.chain.Edge.{Edge}
use Rattle.ick_chain.specs.declared.chain.Fork.{Fork}
use Rattle.ick_chain.specs.declared.chain.Node.{Node}
use Rattle.ick_chain.specs.declared.chain.Node.TheVariants.{Ends, Goes, Stuck}
use Rattle.ick_chain.specs.Places.{Forks, IsFull, Reaches, Tells}
use Rattle.ick_chain.specs.Reached.{AreMade, IsReached, led}
use Rattle.ick_chain.proofs.Pouring.{got_below}
use Rattle.ick_chain.proofs.RowLaws.{got_at}

-- if nothing is asked, both choices lead to the same state
plain_same : (p : Program) (s : State) → ask p s ≡ plain → advance p s true ≡ advance p s false
unfolding advance ask
plain_same p s h = ap (hushed p.silent) (asking.plain_same p.statements s h)

after-next : (p : Program) (s : State) (k : ℕ) → after_steps p s (suc k) ≡ after_steps p (advance p s false) k
after-next p s zero = refl
after-next p s (suc k) = ap (λ z. advance p z false) (after-next p s k)

step-same : (p : Program) (s : State) (b : Bool) → ask p s ≡ plain → advance p s b ≡ advance p s false
step-same p s true h = plain_same p s h
step-same p s false h = refl

by-fork : (p : Program) (ss : List State) (s : State) (b : Bool) (f : Fork) → Forks p ss s f →
    (e : Edge) × Reaches p ss s b e
by-fork p ss s false f (inl r) = (f.zero, r.zero)
by-fork p ss s true f (inl r) = (f.one, r.one)
by-fork p ss s false f (inr r) = (f.zero, r.zero)
by-fork p ss s true f (inr r) = (
  f.zero,
  record {
    to = r.zero.to;
    there = r.zero.there;
    some = r.zero.some;
    runs = subst (λ z. RunsOn p z (f.zero.steps - 1) r.zero.to) (sym (plain_same p s r.asks)) r.zero.runs;
  },
)

-- from a node that goes on each answer leads to a node
leads-on : (p : Program) (ss : List State) (s : State) (b : Bool) (n : Node) → Tells p ss s n → IsGoing (ask p s) →
    (e : Edge) × Reaches p ss s b e
leads-on p ss s b Ends t g = absurd (subst IsGoing t.1 g)
leads-on p ss s b (Goes f) t g = by-fork p ss s b f t
leads-on p ss s b (Stuck f) t g = by-fork p ss s b f t

-- plain steps but the first
runs-next : (p : Program) (u v : State) (k : ℕ) → RunsOn p u (suc k) v →
    RunsOn p (advance p u false) k v
runs-next p u v k r = record {
  leads = r.leads ∙ after-next p u k;
  on = λ i lt. subst (IsPlain p) (after-next p u i) (r.on (suc i) (omega (arith, lt)));
}

-- a state on the way to a node leads to a node, or is on the way to one
on-way : (p : Program) (ss : List State) (nodes : List Node) → IsFull p ss nodes → (t : State) →
    (ask p t ≡ plain → ⊥) → (bs : List Bool) (u to : State) (k at : ℕ) → slice_get ss at ≡ Some to →
    RunsOn p u k to → AreMade p u bs → led p u bs ≡ t → (i : ℕ) × (slice_get ss i ≡ Some t)
on-way p ss nodes full t unplain [] u to zero at g r m e = (at, g ∙ ap Some (r.leads ∙ e))
on-way p ss nodes full t unplain [] u to (suc k) at g r m e =
    absurd (unplain (subst (λ z. ask p z ≡ plain) e (r.on 0 (omega arith))))
on-way p ss nodes full t unplain (b ∷ bs) u to zero at g r m e =
    let same : u ≡ to = sym r.leads in
    let made : AreMade p to (b ∷ bs) = subst (λ z. AreMade p z (b ∷ bs)) same m in
    let leads : led p (advance p to b) bs ≡ t = subst (λ z. led p (advance p z b) bs ≡ t) same e in
    let below = got_below ss at to g in
    let within : at < length nodes = omega (arith, below, full.long) in
    let node = slice_index_or nodes at Ends in
    let next = leads-on p ss to b node (full.each at node to (got_at nodes at Ends within) g) made.0 in
    on-way p ss nodes full t unplain bs (advance p to b) next.1.to (next.0.steps - 1) next.0.to next.1.there next.1.runs
    made.1 leads
on-way p ss nodes full t unplain (b ∷ bs) u to (suc k) at g r m e =
    let here : ask p u ≡ plain = r.on 0 (omega arith) in
    let same = step-same p u b here in
    let made = subst (λ z. AreMade p z bs) same m.1 in
    let leads = subst (λ z. led p z bs ≡ t) same e in
    on-way p ss nodes full t unplain bs (advance p u false) to k at g (runs-next p u to k r) made leads

pub whole : (p : Program) (ss : List State) (nodes : List Node) (s : State) → IsFull p ss nodes →
    slice_get ss 0 ≡ Some s → (t : State) → IsReached p s t → (ask p t ≡ plain → ⊥) →
    (i : ℕ) × (slice_get ss i ≡ Some t)
whole p ss nodes s full g t r unplain =
    let none : RunsOn p s 0 s = record { leads = refl; on = λ i lt. absurd (let z : ⊥ = omega (arith, lt) in z) } in
    on-way p ss nodes full t unplain r.answers s s 0 0 g none r.made r.leads
