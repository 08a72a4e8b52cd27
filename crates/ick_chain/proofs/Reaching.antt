-- Proves that a search finds different states, each of which can be reached.
use Prim.Native.Nat.{zero, suc}
use Rattle.std.proofs.Common.{◌≡◌, ◌⊎◌, inl, inr, ℕ, ◌+◌, ◌<◌, ◌≤◌, Bool, false, List, [], ◌∷◌, ◌++◌, Some, None}
use Rattle.std.proofs.Common.{length, slice_get, slice_index_or, refl, ap, sym, ◌∙◌, subst, arith}
use Rattle.std.specs.HashMap.{HashMap}
use Rattle.ick_code.specs.meaning.State.{State}
use Rattle.ick_outcomes.specs.Programs.{ask, advance, Program, IsPlain, RunsOn, after_steps}
use Rattle.ick_backtrack.specs.Asked.{IsGoing}
use Rattle.ick_outcomes.specs.Accounts.{Configuration}
use Rattle.ick_outcomes.specs.Keys.{Lacks}
use Rattle.ick_outcomes.proofs.Lists.{at-pushed}
use Rattle.ick_chain.specs.Places.{AllSuit, states_in}
use Rattle.ick_chain.specs.Reached.{led, AreMade, IsReached, AreReached, AreDifferent, HasMoreStates, TakesMore}
use Rattle.ick_chain.specs.Reached.{AreFoundBy, node_bytes, bytes_of}
use Rattle.ick_chain.specs.Found.{IsFound, IsIndexed, IsNew, IsReachedIn}
use Rattle.ick_chain.specs.declared.search.Found.{Found}
use Rattle.ick_chain.proofs.Placing.{got_in, plain_going, states_long}

led-more : (p : Program) (s : State) (bs : List Bool) (b : Bool) →
    led p s (bs ++ b ∷ []) ≡ advance p (led p s bs) b
led-more p s [] b = refl
led-more p s (c ∷ bs) b = led-more p (advance p s c) bs b

made-more : (p : Program) (s : State) (bs : List Bool) (b : Bool) → AreMade p s bs →
    IsGoing (ask p (led p s bs)) → AreMade p s (bs ++ b ∷ [])
made-more p s [] b m g = (g, tt)
made-more p s (c ∷ bs) b m g = (m.0, made-more p (advance p s c) bs b m.1 g)

-- one step more
pub reached_next : (p : Program) (s t : State) (b : Bool) → IsReached p s t → IsGoing (ask p t) →
    IsReached p s (advance p t b)
reached_next p s t b r g = record {
  answers = r.answers ++ b ∷ [];
  made = made-more p s r.answers b r.made (subst (λ z. IsGoing (ask p z)) (sym r.leads) g);
  leads = led-more p s r.answers b ∙ ap (λ z. advance p z b) r.leads;
}

-- plain steps more
pub reached_plain : (p : Program) (s t u : State) (k : ℕ) → IsReached p s t → RunsOn p t k u →
    IsReached p s u
reached_plain p s t u k r runs = subst (IsReached p s) (sym runs.leads) (by_steps k (omega arith))
  where
    by_steps : (i : ℕ) → i ≤ k → IsReached p s (after_steps p t i)
    by_steps zero h = r
    by_steps (suc i) h =
        reached_next p s (after_steps p t i) false (by_steps i (omega (arith, h)))
        (plain_going (ask p (after_steps p t i)) (runs.on i (omega (arith, h))))

-- the state after a step and plain steps is reached from the first state, as the one before is
pub reached_on : (p : Program) (ss : List State) (at : ℕ) (s u : State) (b : Bool) (k : ℕ) →
    ((i : ℕ) (t : State) → slice_get ss i ≡ Some t → IsReachedIn p ss t) → slice_get ss at ≡ Some s →
    IsGoing (ask p s) → RunsOn p (advance p s b) k u → IsReachedIn p ss u
reached_on p ss at s u b k h g going runs first f =
    reached_plain p first (advance p s b) u k (reached_next p first s b (h at s g first f) going) runs

got_pushed : {A : Type 0} (xs : List A) (x y : A) (i : ℕ) → slice_get (xs ++ x ∷ []) i ≡ Some y →
    (slice_get xs i ≡ Some y) ⊎ ((i ≡ length xs) × (y ≡ x))
got_pushed [] x y zero h = inr (refl, (let e : x ≡ y = cc in sym e))
got_pushed [] x y (suc i) h = let z : None ≡ Some y = h in cc
got_pushed (w ∷ xs) x y zero h = inl h
got_pushed (w ∷ xs) x y (suc i) h = elim (got_pushed xs x y i h) [ inl k ↦ inl k | inr k ↦ inr (ap suc k.0, k.1) ]

got_mapped : {S : Type 0} (seen : S → Configuration) (xs : List S) (i : ℕ) (s : State) →
    slice_get (states_in seen xs) i ≡ Some s → (x : S) × (slice_get xs i ≡ Some x) × ((seen x).state ≡ s)
got_mapped seen [] i s h = let z : None ≡ Some s = h in cc
got_mapped seen (x ∷ xs) zero s h = (x, refl, (let e : (seen x).state ≡ s = cc in e))
got_mapped seen (x ∷ xs) (suc i) s h = got_mapped seen xs i s h

got-suits : {S : Type 0} (suits : S → Type 0) (xs : List S) (i : ℕ) (x : S) → AllSuit suits xs →
    slice_get xs i ≡ Some x → suits x
got-suits suits [] i x h g = let z : None ≡ Some x = g in cc
got-suits suits (y ∷ xs) zero x h g = let e : y ≡ x = cc in subst suits e (h 0 y (omega arith))
got-suits suits (y ∷ xs) (suc i) x h g = got-suits suits xs i x (λ k d lt. h (suc k) d (omega (arith, lt))) g

states-pushed : {S : Type 0} (seen : S → Configuration) (xs : List S) (x : S) →
    states_in seen (xs ++ x ∷ []) ≡ states_in seen xs ++ (seen x).state ∷ []
states-pushed seen [] x = refl
states-pushed seen (y ∷ xs) x = ap (λ z. (seen y).state ∷ z) (states-pushed seen xs x)

different-more : (ss : List State) (s : State) → AreDifferent ss → IsNew ss s → AreDifferent (ss ++ s ∷ [])
different-more ss s d n i j t h k = elim (got_pushed ss s t i h) [
  | inl a ↦ elim (got_pushed ss s t j k) [
    | inl b ↦ d i j t a b
    | inr b ↦ absurd (n i (subst (λ z. slice_get ss i ≡ Some z) b.1 a))
  ]
  | inr a ↦ elim (got_pushed ss s t j k) [
    | inl b ↦ absurd (n j (subst (λ z. slice_get ss j ≡ Some z) a.1 b))
    | inr b ↦ a.0 ∙ sym b.0
  ]
]

reached-here : (p : Program) (s t : State) → s ≡ t → IsReached p s t
reached-here p s t e = record { answers = []; made = tt; leads = e }

reached-more : (p : Program) (ss : List State) (s : State) →
    ((i : ℕ) (t : State) → slice_get ss i ≡ Some t → IsReachedIn p ss t) → IsReachedIn p ss s →
    (i : ℕ) (t : State) → slice_get (ss ++ s ∷ []) i ≡ Some t → IsReachedIn p (ss ++ s ∷ []) t
reached-more p [] s h r zero t g first f =
    let a : s ≡ t = cc in let b : s ≡ first = cc in reached-here p first t (sym b ∙ a)
reached-more p [] s h r (suc i) t g first f = let z : None ≡ Some t = g in cc
reached-more p (x ∷ ss) s h r i t g first f = elim (got_pushed (x ∷ ss) s t i g) [
  | inl a ↦ h i t a first f
  | inr b ↦ subst (λ z. IsReached p first z) (sym b.1) (r first f)
]

indexed-more : {S M : Type 0} (key : S → ℕ) (places places' : HashMap ℕ ℕ M) (xs : List S) (x : S) →
    IsIndexed key places xs → ((k : ℕ) → Lacks places' k → Lacks places k) → (Lacks places' (key x) → ⊥) →
    IsIndexed key places' (xs ++ x ∷ [])
indexed-more key places places' xs x h f n i y g l = elim (got_pushed xs x y i g) [
  | inl a ↦ h i y a (f (key y) l)
  | inr b ↦ n (subst (λ z. Lacks places' (key z)) b.1 l)
]

bytes-more : {S : Type 0} (size : S → ℕ) (xs : List S) (x : S) →
    bytes_of size (xs ++ x ∷ []) ≡ bytes_of size xs + (size x + node_bytes)
bytes-more size [] x = omega arith
bytes-more size (y ∷ xs) x = let h = bytes-more size xs x in omega (arith, h)

module _ {S : Type 0} (p : Program) (seen : S → Configuration) (suits : S → Type 0) (key size : S → ℕ) where
  -- a new state was appended, and its key was noted
  pub found_more : (found found' : Found S) (x : S) → IsFound p seen suits key size found → suits x →
      IsNew (states_in seen found.states.items) (seen x).state →
      IsReachedIn p (states_in seen found.states.items) (seen x).state →
      ((k : ℕ) → Lacks found'.index.rows k → Lacks found.index.rows k) → (Lacks found'.index.rows (key x) → ⊥) →
      found'.states.items ≡ found.states.items ++ x ∷ [] → found'.bytes ≤ found.bytes + (size x + node_bytes) →
      IsFound p seen suits key size found'
  found_more found found' x h u n r f k e b =
      let old = found.states.items in
      let states : states_in seen old ++ (seen x).state ∷ [] ≡ states_in seen found'.states.items =
      sym (ap (states_in seen) e ∙ states-pushed seen old x) in
      record {
        suit = subst (AllSuit suits) (sym e) (λ i d lt. at-pushed suits old x i d lt (λ v. h.suit i d v) u);
        indexed = subst (IsIndexed key found'.index.rows) (sym e)
            (indexed-more key found.index.rows found'.index.rows old x h.indexed f k);
        different = subst AreDifferent states (different-more (states_in seen old) (seen x).state h.different n);
        reached = subst (λ ss. (i : ℕ) (s : State) → slice_get ss i ≡ Some s → IsReachedIn p ss s) states
            (reached-more p (states_in seen old) (seen x).state h.reached r);
        counted = (let c = h.counted in let m = bytes-more size old x in let l = ap (bytes_of size) e in
            omega (arith, c, m, l, b));
      }

  -- no state was found
  pub found_none : (found : Found S) → found.states.items ≡ [] → found.bytes ≡ 0 → IsFound p seen suits key size found
  found_none found e z = record {
    suit = subst (AllSuit suits) (sym e) (λ i d lt. absurd (let w : ⊥ = omega (arith, lt) in w));
    indexed = subst (IsIndexed key found.index.rows) (sym e) (λ i x g. let w : None ≡ Some x = g in cc);
    different = subst (λ xs. AreDifferent (states_in seen xs)) (sym e)
        (λ i j s g h. let w : None ≡ Some s = g in cc);
    reached = subst (λ xs. (i : ℕ) (s : State) → slice_get (states_in seen xs) i ≡ Some s →
        IsReachedIn p (states_in seen xs) s) (sym e) (λ i s g. let w : None ≡ Some s = g in cc);
    counted = omega (arith, z);
  }

  -- a state whose key isn't noted is new
  pub new_by_key : (found : Found S) (x : S) → IsFound p seen suits key size found → suits x →
      ((one other : S) → suits one → suits other → (seen one).state ≡ (seen other).state → key one ≡ key other) →
      Lacks found.index.rows (key x) → IsNew (states_in seen found.states.items) (seen x).state
  new_by_key found x h u same l i g =
      let y = got_mapped seen found.states.items i (seen x).state g in
      h.indexed i y.0 y.1
      (subst (λ z. Lacks found.index.rows z)
      (sym (same y.0 x (got-suits suits found.states.items i y.0 h.suit y.1) u y.2)) l)

  -- each state can be reached from the first one
  pub all_reached : (found : Found S) (s : State) → IsFound p seen suits key size found →
      slice_get (states_in seen found.states.items) 0 ≡ Some s →
      AreReached p s (states_in seen found.states.items)
  all_reached found s h f i t g = h.reached i t g s f

  -- more states were found than are allowed
  pub more_states : (found : Found S) (s : State) (most steps : ℕ) → IsFound p seen suits key size found →
      slice_get (states_in seen found.states.items) 0 ≡ Some s → most < length found.states.items →
      AreFoundBy p (states_in seen found.states.items) steps → HasMoreStates p s most steps
  more_states found s most steps h f lt by = record {
    states = states_in seen found.states.items;
    more = (let l = states_long seen found.states.items in omega (arith, l, lt));
    different = h.different;
    reached = all_reached found s h f;
    found = by;
  }

  -- they take more bytes than are allowed
  pub more_bytes : (found : Found S) (s : State) (memory : ℕ) → IsFound p seen suits key size found →
      slice_get (states_in seen found.states.items) 0 ≡ Some s → memory < found.bytes →
      TakesMore p seen suits size s memory
  more_bytes found s memory h f lt = record {
    states = found.states.items;
    more = (let c = h.counted in omega (arith, c, lt));
    suit = h.suit;
    different = h.different;
    reached = all_reached found s h f;
  }

-- one state more isn't equal
pub new_next : {S : Type 0} (seen : S → Configuration) (xs : List S) (at : ℕ) (x : S) (s : State) → at < length xs →
    x ≡ slice_index_or xs at x → ((seen x).state ≡ s → ⊥) →
    ((k : ℕ) → k < at → slice_get (states_in seen xs) k ≡ Some s → ⊥) →
    (k : ℕ) → k < at + 1 → slice_get (states_in seen xs) k ≡ Some s → ⊥
new_next seen xs at x s lt e n h k below g = elim (nat_cases k at (omega (arith, below))) [
  | inl a ↦ h k a g
  | inr a ↦
      let there = got_in seen xs at x lt e in
      let here : slice_get (states_in seen xs) at ≡ Some s = subst (λ z. slice_get (states_in seen xs) z ≡ Some s) a g in
      let same : Some ((seen x).state) ≡ Some s = sym there ∙ here in
      n (let z : (seen x).state ≡ s = cc in z)
]
  where
    nat_cases : (k at : ℕ) → k < suc at → (k < at) ⊎ (k ≡ at)
    nat_cases zero zero h = inr refl
    nat_cases zero (suc at) h = inl (omega arith)
    nat_cases (suc k) zero h = absurd (let w : ⊥ = omega (arith, h) in w)
    nat_cases (suc k) (suc at) h = elim (nat_cases k at (omega (arith, h))) [
      | inl a ↦ inl (omega (arith, a))
      | inr a ↦ inr (ap suc a)
    ]

-- none of all states is equal
pub new_all : {S : Type 0} (seen : S → Configuration) (xs : List S) (at : ℕ) (s : State) → length xs ≤ at →
    ((k : ℕ) → k < at → slice_get (states_in seen xs) k ≡ Some s → ⊥) → IsNew (states_in seen xs) s
new_all seen xs at s le h i g =
    let lt = got-below seen xs i s g in h i (omega (arith, lt, le)) g
  where
    got-below : {S : Type 0} (seen : S → Configuration) (xs : List S) (i : ℕ) (s : State) →
        slice_get (states_in seen xs) i ≡ Some s → i < length xs
    got-below seen [] i s h = let z : None ≡ Some s = h in cc
    got-below seen (y ∷ xs) zero s h = omega arith
    got-below seen (y ∷ xs) (suc i) s h = let k = got-below seen xs i s h in omega (arith, k)
