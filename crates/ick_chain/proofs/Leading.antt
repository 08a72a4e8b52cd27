-- Proves that edges lead to the states that a search finds, and how many steps it makes.
use Prim.Native.Nat.{zero, suc}
use Rattle.std.proofs.Common.{◌≡◌, ◌⊎◌, inl, inr, ℕ, ◌+◌, ◌<◌, ◌≤◌, List, [], ◌∷◌, ◌++◌, Some, None, length, slice_get}
use Rattle.std.proofs.Common.{refl, ap, sym, ◌∙◌, subst, arith}
use Rattle.std.specs.Prelude.{min}
use Rattle.ick_code.specs.meaning.State.{State}
use Rattle.ick_outcomes.specs.Programs.{Program}
use Rattle.ick_outcomes.specs.Accounts.{Configuration}
use Rattle.ick_chain.specs.Places.{AllTell, states_in}
use Rattle.ick_chain.specs.Reached.{AreFoundBy, IsLedTo, LeadsTo, in_64_bits, steps_at, steps_in}
use Rattle.ick_chain.specs.declared.chain.Node.{Node}
use Rattle.ick_chain.proofs.Placing.{states_long}

below_or_not : (i n : ℕ) → (i < n) ⊎ (n ≤ i)
below_or_not i zero = inr (omega arith)
below_or_not zero (suc n) = inl (omega arith)
below_or_not (suc i) (suc n) = elim (below_or_not i n) [
  | inl a ↦ inl (omega (arith, a))
  | inr a ↦ inr (omega (arith, a))
]

got_still : (ns : List Node) (n m : Node) (i : ℕ) → slice_get ns i ≡ Some m → slice_get (ns ++ n ∷ []) i ≡ Some m
got_still [] n m i h = let z : None ≡ Some m = h in cc
got_still (x ∷ ns) n m zero h = h
got_still (x ∷ ns) n m (suc i) h = got_still ns n m i h

got_added : (ns : List Node) (n : Node) → slice_get (ns ++ n ∷ []) (length ns) ≡ Some n
got_added [] n = refl
got_added (x ∷ ns) n = got_added ns n

-- one more node leads to the states that it found
pub led_more : (ns ms : List Node) (n : Node) (old new : ℕ) → ((i : ℕ) → 0 < i → i < old → IsLedTo ns i) →
    ((i : ℕ) → old ≤ i → i < new → LeadsTo n i) → ms ≡ ns ++ n ∷ [] → (i : ℕ) → 0 < i → i < new → IsLedTo ms i
led_more ns ms n old new led leads is i some below = elim (below_or_not i old) [
  | inl before ↦
      let l = led i some before in record {
        from = l.from;
        node = l.node;
        there = subst (λ z. slice_get z l.from ≡ Some l.node) (sym is) (got_still ns n l.node l.from l.there);
        leads = l.leads;
      }
  | inr behind ↦ record {
    from = length ns;
    node = n;
    there = subst (λ z. slice_get z (length ns) ≡ Some n) (sym is) (got_added ns n);
    leads = leads i behind below;
  }
]

steps_more : (ns : List Node) (n : Node) → steps_in (ns ++ n ∷ []) ≡ steps_in ns + steps_at n
steps_more [] n = omega arith
steps_more (x ∷ ns) n = let h = steps_more ns n in omega (arith, h)

-- the steps of one more node are counted
pub counted_more : (ns ms : List Node) (n : Node) (old more new : ℕ) → old ≡ in_64_bits (steps_in ns) →
    more ≡ steps_at n → new ≡ min (old + more) 18446744073709551615 → ms ≡ ns ++ n ∷ [] →
    new ≡ in_64_bits (steps_in ms)
counted_more ns ms n old more new counted node sum is =
    let all = ap steps_in is ∙ steps_more ns n in omega (arith, counted, node, sum, all)

-- nodes lead to the states, in so many steps
pub found_by : {S : Type 0} (p : Program) (seen : S → Configuration) (xs : List S) (nodes : List Node) (steps : ℕ) →
    AllTell p (states_in seen xs) nodes → ((i : ℕ) → 0 < i → i < length xs → IsLedTo nodes i) →
    steps ≡ in_64_bits (steps_in nodes) → AreFoundBy p (states_in seen xs) steps
found_by p seen xs nodes steps each led counted = record {
  nodes = nodes;
  each = each;
  led = λ i some below. led i some (let l = states_long seen xs in omega (arith, below, l));
  counted = counted;
}

-- no node was made
pub none_told : (p : Program) (ss : List State) (ns : List Node) → ns ≡ [] → AllTell p ss ns
none_told p ss ns none = subst (AllTell p ss) (sym none) (λ i n s g h. let z : None ≡ Some n = g in cc)

pub none_counted : (ns : List Node) → ns ≡ [] → 0 ≡ in_64_bits (steps_in ns)
none_counted ns none = subst (λ z. 0 ≡ in_64_bits (steps_in z)) (sym none) (omega arith)
