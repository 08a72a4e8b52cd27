-- Proves what the search keeps while states are appended.
use Prim.Native.Nat.{zero, suc}
use Rattle.std.proofs.Common.{◌≡◌, ◌⊎◌, inl, inr, ℕ, ◌+◌, ◌-◌, ◌<◌, Bool, true, false, List, [], ◌∷◌, ◌++◌, Some, None}
use Rattle.std.proofs.Common.{length, slice_get, slice_index_or, refl, ap, sym, ◌∙◌, subst, arith}
use Rattle.ick_code.specs.meaning.State.{State, Ending, gave_up, faulted}
use Rattle.ick_code.specs.meaning.Move.{Asking, plain, choice, ended}
use Rattle.ick_outcomes.specs.Programs.{advance, Program, IsPlain, RunsOn}
use Rattle.ick_backtrack.specs.Asked.{asked_of, IsGoing}
use Rattle.ick_backtrack.specs.declared.asking.End.{End}
use Rattle.ick_backtrack.specs.declared.asking.End.TheVariants.{GiveUp, Fault, Limit}
use Rattle.ick_backtrack.specs.declared.asking.Ask.TheVariants.{Plain, Choice, Ended}
use Rattle.ick_outcomes.specs.Accounts.{Configuration}
use Rattle.ick_chain.specs.declared.chain.Edge.{Edge}
use Rattle.ick_chain.specs.declared.chain.Fork.{Fork}
use Rattle.ick_chain.specs.declared.chain.Node.{Node}
use Rattle.ick_chain.specs.declared.chain.Node.TheVariants.{Ends, Goes, Stuck}
use Rattle.ick_chain.specs.Places.{Reaches, Forks, Tells, AllTell, Extends, IsFull}
use Rattle.ick_chain.specs.Places.{state_or, states_in}
use Rattle.ick_chain.specs.Chains.{Leads, IsFork, IsNode, IsChain}

pub got_in : {S : Type 0} (seen : S → Configuration) (xs : List S) (i : ℕ) (x : S) → i < length xs →
    x ≡ slice_index_or xs i x → slice_get (states_in seen xs) i ≡ Some ((seen x).state)
got_in seen [] i x lt e = absurd (let z : ⊥ = omega (arith, lt) in z)
got_in seen (y ∷ xs) zero x lt e = ap (λ z. Some ((seen z).state)) (sym e)
got_in seen (y ∷ xs) (suc i) x lt e = got_in seen xs i x (omega (arith, lt)) e

pub got_last : {S : Type 0} (seen : S → Configuration) (xs : List S) (x : S) →
    slice_get (states_in seen (xs ++ x ∷ [])) (length xs) ≡ Some ((seen x).state)
got_last seen [] x = refl
got_last seen (y ∷ xs) x = got_last seen xs x

append-none : {A : Type 0} (xs : List A) → xs ≡ xs ++ []
append-none [] = refl
append-none (x ∷ xs) = ap (λ z. x ∷ z) (append-none xs)

append-three : {A : Type 0} (xs ys zs : List A) → (xs ++ ys) ++ zs ≡ xs ++ (ys ++ zs)
append-three [] ys zs = refl
append-three (x ∷ xs) ys zs = ap (λ z. x ∷ z) (append-three xs ys zs)

pub extends_none : (ss : List State) → Extends ss ss
extends_none ss = ([], append-none ss)

pub extends_one : {S : Type 0} (seen : S → Configuration) (xs : List S) (x : S) →
    Extends (states_in seen xs) (states_in seen (xs ++ x ∷ []))
extends_one seen xs x = ((seen x).state ∷ [], by_list xs)
  where
    by_list : (xs : List _) → states_in seen (xs ++ x ∷ []) ≡ states_in seen xs ++ (seen x).state ∷ []
    by_list [] = refl
    by_list (y ∷ xs) = ap (λ z. (seen y).state ∷ z) (by_list xs)

pub extends_on : (a b c : List State) → Extends a b → Extends b c → Extends a c
extends_on a b c h k = (h.0 ++ k.0, k.1 ∙ (ap (λ z. z ++ k.0) h.1 ∙ append-three a h.0 k.0))

get-append : (ss more : List State) (i : ℕ) (s : State) → slice_get ss i ≡ Some s → slice_get (ss ++ more) i ≡ Some s
get-append [] more i s h = let z : None ≡ Some s = h in cc
get-append (x ∷ ss) more zero s h = h
get-append (x ∷ ss) more (suc i) s h = get-append ss more i s h

pub got_on : (a b : List State) (i : ℕ) (s : State) → Extends a b → slice_get a i ≡ Some s → slice_get b i ≡ Some s
got_on a b i s h g = subst (λ z. slice_get z i ≡ Some s) (sym h.1) (get-append a h.0 i s g)

pub reaches_on : (p : Program) (a b : List State) (s : State) (d : Bool) (e : Edge) → Extends a b →
    Reaches p a s d e → Reaches p b s d e
reaches_on p a b s d e h r =
    record { to = r.to; there = got_on a b e.to r.to h r.there; some = r.some; runs = r.runs }

forks_on : (p : Program) (a b : List State) (s : State) (f : Fork) → Extends a b → Forks p a s f → Forks p b s f
forks_on p a b s f h (inl r) = inl (record {
  asks = r.asks;
  zero = reaches_on p a b s false f.zero h r.zero;
  one = reaches_on p a b s true f.one h r.one;
})
forks_on p a b s f h (inr r) =
    inr (record { asks = r.asks; chance = r.chance; zero = reaches_on p a b s false f.zero h r.zero })

pub tells_on : (p : Program) (a b : List State) (s : State) (n : Node) → Extends a b → Tells p a s n → Tells p b s n
tells_on p a b s Ends h t = t
tells_on p a b s (Goes f) h t = forks_on p a b s f h t
tells_on p a b s (Stuck f) h t = forks_on p a b s f h t

pub got_same : {A : Type 0} (xs : List A) (i : ℕ) (x y : A) → slice_get xs i ≡ Some x → slice_get xs i ≡ Some y → x ≡ y
got_same xs i x y h k = let e : Some x ≡ Some y = sym h ∙ k in cc

pub ended_of : (end : End) (a : Asking) → asked_of (Ended end) ≡ Some a → (e : Ending) × (a ≡ ended e)
ended_of GiveUp a h = let e : Some (ended gave_up) ≡ Some a = h in (gave_up, cc)
ended_of (Fault f) a h =
    let x = faulted f.kind f.statement f.subject.now in let e : Some (ended x) ≡ Some a = h in (x, cc)
ended_of Limit a h = let e : None ≡ Some a = h in cc

pub plain_going : (a : Asking) → a ≡ plain → IsGoing a
plain_going a e = subst IsGoing (sym e) tt

pub choice_going : (a : Asking) (c : ℕ) → a ≡ choice c → IsGoing a
choice_going a c e = subst IsGoing (sym e) tt

pub asked_plain : (a : Asking) → asked_of Plain ≡ Some a → a ≡ plain
asked_plain a h = let e : Some plain ≡ Some a = h in cc

pub asked_choice : (a : Asking) (c : ℕ) → asked_of (Choice c) ≡ Some a → a ≡ choice c
asked_choice a c h = let e : Some (choice c) ≡ Some a = h in cc

got_push : (ns : List Node) (n m : Node) (i : ℕ) → slice_get (ns ++ n ∷ []) i ≡ Some m →
    (slice_get ns i ≡ Some m) ⊎ ((i ≡ length ns) × (m ≡ n))
got_push [] n m zero h = inr (refl, (let e : n ≡ m = cc in sym e))
got_push [] n m (suc i) h = let z : None ≡ Some m = h in cc
got_push (x ∷ ns) n m zero h = inl h
got_push (x ∷ ns) n m (suc i) h = elim (got_push ns n m i h) [ inl k ↦ inl k | inr k ↦ inr (ap suc k.0, k.1) ]

got_below' : {A : Type 0} (xs : List A) (i : ℕ) (x : A) → slice_get xs i ≡ Some x → i < length xs
got_below' [] i x h = let z : None ≡ Some x = h in cc
got_below' (y ∷ xs) zero x h = omega arith
got_below' (y ∷ xs) (suc i) x h = let k = got_below' xs i x h in omega (arith, k)

got_back : (a more : List State) (i : ℕ) (s : State) → i < length a → slice_get (a ++ more) i ≡ Some s →
    slice_get a i ≡ Some s
got_back [] more i s lt h = absurd (let z : ⊥ = omega (arith, lt) in z)
got_back (x ∷ a) more zero s lt h = h
got_back (x ∷ a) more (suc i) s lt h = got_back a more i s (omega (arith, lt)) h

-- one more node tells of its state
pub tell_more : (p : Program) (a b : List State) (ns : List Node) (n : Node) → AllTell p a ns → Extends a b →
    length ns < length a →
    ((s : State) → slice_get a (length ns) ≡ Some s → Tells p b s n) → AllTell p b (ns ++ n ∷ [])
tell_more p a b ns n h x lt t i m s g k = elim (got_push ns n m i g) [
  | inl o ↦
      let l = got_below' ns i m o in
      let k' = got_back a x.0 i s (omega (arith, l, lt)) (subst (λ z. slice_get z i ≡ Some s) x.1 k) in
      tells_on p a b s m x (h i m s o k')
  | inr o ↦
      let k' = subst (λ z. slice_get b z ≡ Some s) o.0 k in
      subst (λ z. Tells p b s z) (sym o.1)
      (t s (got_back a x.0 (length ns) s lt (subst (λ z. slice_get z (length ns) ≡ Some s) x.1 k')))
]

pub states_long : {S : Type 0} (seen : S → Configuration) (xs : List S) → length (states_in seen xs) ≡ length xs
states_long seen [] = refl
states_long seen (x ∷ xs) = ap suc (states_long seen xs)

pub length_more : (ns ms : List Node) (n : Node) (k : ℕ) → length ns ≡ k → ms ≡ ns ++ n ∷ [] → length ms ≡ k + 1
length_more ns ms n k h e =
    let i = ap (λ z. length z) e in let j = by_list ns in let l : suc k ≡ k + 1 = omega arith in
    i ∙ (j ∙ (ap suc h ∙ l))
  where
    by_list : (ns : List Node) → length (ns ++ n ∷ []) ≡ suc (length ns)
    by_list [] = refl
    by_list (x ∷ ns) = ap suc (by_list ns)

-- a node for each state makes a chain
got_or : (ss : List State) (i : ℕ) (d : State) → i < length ss → slice_get ss i ≡ Some (slice_index_or ss i d)
got_or [] i d lt = absurd (let z : ⊥ = omega (arith, lt) in z)
got_or (x ∷ ss) zero d lt = refl
got_or (x ∷ ss) (suc i) d lt = got_or ss i d (omega (arith, lt))

pub or_got : (ss : List State) (i : ℕ) (d s : State) → slice_get ss i ≡ Some s → slice_index_or ss i d ≡ s
or_got [] i d s h = let z : None ≡ Some s = h in cc
or_got (x ∷ ss) zero d s h = let e : x ≡ s = cc in e
or_got (x ∷ ss) (suc i) d s h = or_got ss i d s h

pub first_is : (ss : List State) (d s : State) → slice_get ss 0 ≡ Some s → state_or d ss 0 ≡ s
first_is ss d s h = or_got ss 0 d s h

leads_of : (p : Program) (ss : List State) (d s : State) (b : Bool) (e : Edge) → Reaches p ss s b e →
    Leads p (state_or d ss) s b e
leads_of p ss d s b e r = record {
  some = r.some;
  runs = subst (λ z. RunsOn p (advance p s b) (e.steps - 1) z) (sym (or_got ss e.to d r.to r.there)) r.runs;
}

fork_of : (p : Program) (ss : List State) (d s : State) (f : Fork) → Forks p ss s f → IsFork p (state_or d ss) s f
fork_of p ss d s f (inl r) = inl (record {
  asks = r.asks;
  zero = leads_of p ss d s false f.zero r.zero;
  one = leads_of p ss d s true f.one r.one;
})
fork_of p ss d s f (inr r) =
    inr (record { asks = r.asks; chance = r.chance; zero = leads_of p ss d s false f.zero r.zero })

node_of : (p : Program) (ss : List State) (d s : State) (n : Node) → Tells p ss s n → IsNode p (state_or d ss) s n
node_of p ss d s Ends t = t
node_of p ss d s (Goes f) t = fork_of p ss d s f t
node_of p ss d s (Stuck f) t = fork_of p ss d s f t

pub chain_of : (p : Program) (ss : List State) (nodes : List Node) (d : State) → IsFull p ss nodes →
    IsChain p (state_or d ss) nodes
chain_of p ss nodes d h i n g =
    let l = got_below' nodes i n g in
    let lt : i < length ss = omega (arith, l, h.long) in
    node_of p ss d (state_or d ss i) n (h.each i n (state_or d ss i) g (got_or ss i d lt))
