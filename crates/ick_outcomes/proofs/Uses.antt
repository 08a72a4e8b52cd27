-- Proves the lemmas in the form in which functions use them.
use Prim.Native.Nat.{zero, suc}
use Rattle.std.proofs.Common.{◌≡◌, inl, inr, ℕ, ◌+◌, ◌*◌, ◌-◌, ◌^◌, ◌<◌, ◌≤◌, Bool, false, length, List, []}
use Rattle.std.proofs.Common.{◌∷◌, ◌++◌, Some, None}
use Rattle.std.proofs.Common.{refl, ap, sym, ◌∙◌, subst, arith, slice_index_or, slice_set}
use Rattle.std.specs.List.{All, Contains}
use Rattle.std.proofs.lemmas.List.{map-append}
use Rattle.std.proofs.lemmas.List.Elements.{All-push}
use Rattle.ick_code.specs.meaning.State.{State}
use Rattle.ick_code.specs.meaning.Move.{ended}
use Rattle.ick_outcomes.specs.Programs.{ask, advance, Program, after_steps, IsPlain, RunsOn}
use Rattle.ick_backtrack.specs.Asked.{Finish, finished, at_limit, IsGoing, asked_at_end}
use Rattle.ick_explorer.specs.Order.{IsBelow}
use Rattle.ick_outcomes.specs.Tallies.{lesser, after, tally}
use Rattle.ick_outcomes.specs.Weights.{amount, part}
use Rattle.ick_outcomes.specs.Fractions.{top_of, IsSum, IsPart}
use Rattle.ick_outcomes.specs.declared.fraction.Fraction.{Fraction}
use Rattle.ick_outcomes.proofs.Amounts.{amount-end, amount-run, amount-plus, amount-part}
use Rattle.ick_outcomes.specs.Summaries.{Row}
use Rattle.ick_outcomes.specs.Accounts.{Configuration, Pending, AreApart, AreOver, Admits, CanMerge, Counts}
use Rattle.ick_outcomes.specs.Accounts.{GoesOn, SameRow, chosen}
use Rattle.ick_outcomes.specs.Packed.{choices_of, IsEarlier}
use Rattle.ick_outcomes.specs.Searches.{IsLevel, Joins, StaysAt, Waits, asking}
use Rattle.ick_numbers.specs.Values.{natural}
use Rattle.ick_outcomes.specs.Seen.{pending_of, nodes_of, row_of, rows_of}
use Rattle.ick_outcomes.specs.declared.pending.Node.{Node}
use Rattle.ick_outcomes.specs.declared.bucket.Bucket.{Bucket}
use Rattle.ick_outcomes.specs.declared.outcome.Outcome.{Outcome}
use Rattle.ick_outcomes.proofs.PlaceByPlace.{lesser-before}
use Rattle.ick_outcomes.proofs.Ends.{lesser-flip}
use Rattle.ick_outcomes.proofs.Lists.{any_default, get-mapped, set-mapped, mapped-at, at-set}
use Rattle.ick_outcomes.proofs.Sums.{admits-merge, admits-push, counts-set, counts-push}
use Rattle.ick_outcomes.proofs.Sums.{ahead-ended, ahead-limit, ahead-runs}

pub lesser_kept : (c d : List Bool) → IsBelow c d → lesser c d ≡ c
lesser_kept c d h = lesser-before c d h

pub lesser_given : (c d : List Bool) → IsBelow d c → lesser c d ≡ d
lesser_given c d h = lesser-flip c d h

pub admits_at : {S : Type 0} (seen : S → Configuration) (ns : List (Node S)) (i : ℕ) (more old new : Node S) →
    i < length ns →
    ((d : Node S) → CanMerge (pending_of seen (slice_index_or ns i d)) (pending_of seen more)) →
    old ≡ slice_index_or ns i old →
    pending_of seen new ≡ record (pending_of seen old) {
      count = natural old.count + natural more.count;
      weight = (pending_of seen old).weight + (pending_of seen more).weight;
      choices = lesser (choices_of old.choices) (choices_of more.choices);
    } → Admits (nodes_of seen ns) (pending_of seen more) (nodes_of seen (slice_set ns i new))
admits_at seen ns i more old new lt m e f =
    subst (λ xs. Admits (nodes_of seen ns) (pending_of seen more) xs) (sym (set-mapped (pending_of seen) ns i new))
    (admits-merge (nodes_of seen ns) i (pending_of seen old) (pending_of seen more) (pending_of seen new)
    (get-mapped (pending_of seen) ns i old lt ∙ ap (λ x. Some (pending_of seen x)) (sym e))
    (subst (λ x. CanMerge (pending_of seen x) (pending_of seen more)) (sym e) (m old)) f)

pub kept_at : {S : Type 0} (ns xs : List (Node S)) (i : ℕ) (old more : Node S) (kept : Bool) → xs ≡ ns →
    old ≡ slice_index_or ns i old →
    ((d : Node S) → IsEarlier (choices_of (slice_index_or xs i d).choices) (choices_of more.choices) kept) →
    IsEarlier (choices_of old.choices) (choices_of more.choices) kept
kept_at {S} ns xs i old more kept e f h =
    subst (λ (z : Node S). IsEarlier (choices_of z.choices) (choices_of more.choices) kept) (sym f)
    (subst (λ (zs : List (Node S)). IsEarlier (choices_of (slice_index_or zs i old).choices) (choices_of more.choices)
    kept) e (h old))

-- what holds of each node of a list still does after a node is merged into one of them
pub all_at : {S : Type 0} (P : Node S → Type 0) (ns : List (Node S)) (i : ℕ) (old new : Node S) → i < length ns →
    old ≡ slice_index_or ns i old → (P old → P new) → All P ns → All P (slice_set ns i new)
all_at P ns i old new lt e f all = λ k d l.
    at-set P ns i new k d l (λ u. all k d u) (λ u p. f (subst P (sym (e ∙ any_default ns i old d lt)) p))

pub waits_still : {S : Type 0} (seen : S → Configuration) (suits : S → Type 0) (old new : Node S) → StaysAt old new →
    Waits seen suits old → Waits seen suits new
waits_still seen suits old new h w = record {
  suited = subst suits (sym h.same_state) w.suited;
  asks = ap (λ s. ask (seen s).program (seen s).state) h.same_state ∙ (w.asks ∙ ap asking (sym h.same_chance));
  some = subst (λ l. 0 < l) (sym h.same_left) w.some;
}

pub admits_new : {S : Type 0} (seen : S → Configuration) (ns ns' : List (Node S)) (more : Node S) → ns' ≡ ns ++ more ∷ [] →
    Admits (nodes_of seen ns) (pending_of seen more) (nodes_of seen ns')
admits_new seen ns ns' more e =
    subst (λ xs. Admits (nodes_of seen ns) (pending_of seen more) xs)
    (sym (map-append (pending_of seen) ns (more ∷ [])) ∙ ap (nodes_of seen) (sym e))
    (admits-push (nodes_of seen ns) (pending_of seen more))

-- a node is merged into one of a bucket, or put into the bucket
pub joins_at : {S : Type 0} (seen : S → Configuration) (suits : S → Type 0) (b b' : Bucket S) (i : ℕ)
    (more old new : Node S) → i < length b.nodes.items →
    Admits (nodes_of seen b.nodes.items) (pending_of seen more) (nodes_of seen (slice_set b.nodes.items i new)) →
    old ≡ slice_index_or b.nodes.items i old → StaysAt old new → IsLevel b → b'.left ≡ b.left →
    b'.nodes.items ≡ slice_set b.nodes.items i new → Joins seen suits more b b'
joins_at {S} seen suits b b' i more old new lt a e stays level left is = record {
  admits = subst (λ ns. Admits (nodes_of seen b.nodes.items) (pending_of seen more) (nodes_of seen ns)) (sym is) a;
  same_left = left;
  level = subst (All (λ n. n.left ≡ b'.left)) (sym is)
      (subst (λ l. All (λ (n : Node S). n.left ≡ l) (slice_set b.nodes.items i new)) (sym left)
      (all_at (λ n. n.left ≡ b.left) b.nodes.items i old new lt e (λ p. stays.same_left ∙ p) level));
  wait = λ all. subst (All (Waits seen suits)) (sym is)
      (all_at (Waits seen suits) b.nodes.items i old new lt e (waits_still seen suits old new stays) all);
}

pub joins_new : {S : Type 0} (seen : S → Configuration) (suits : S → Type 0) (b b' : Bucket S) (more : Node S) →
    Waits seen suits more → more.left ≡ b.left → IsLevel b → b'.left ≡ b.left →
    b'.nodes.items ≡ b.nodes.items ++ more ∷ [] → Joins seen suits more b b'
joins_new {S} seen suits b b' more waits same level left is = record {
  admits = admits_new seen b.nodes.items b'.nodes.items more is;
  same_left = left;
  level = subst (All (λ n. n.left ≡ b'.left)) (sym is)
      (subst (λ l. All (λ (n : Node S). n.left ≡ l) (b.nodes.items ++ more ∷ [])) (sym left)
      (All-push (λ n. n.left ≡ b.left) b.nodes.items more level same));
  wait = λ all. subst (All (Waits seen suits)) (sym is)
      (All-push (Waits seen suits) b.nodes.items more all waits);
}

pub counts_at : (rs : List Outcome) (i : ℕ) (more old new : Outcome) → i < length rs →
    ((d : Outcome) → SameRow (row_of (slice_index_or rs i d)) (row_of more)) →
    old ≡ slice_index_or rs i old →
    row_of new ≡ record (row_of old) {
      count = natural old.count + natural more.count;
      weight = (row_of old).weight + (row_of more).weight;
      first = lesser old.first.items more.first.items;
    } → Counts (rows_of rs) (row_of more) (rows_of (slice_set rs i new))
counts_at rs i more old new lt m e f =
    let s : SameRow (row_of old) (row_of more) = subst (λ x. SameRow (row_of x) (row_of more)) (sym e) (m old) in
    subst (λ xs. Counts (rows_of rs) (row_of more) xs) (sym (set-mapped row_of rs i new))
    (counts-set (rows_of rs) i (row_of old) (row_of more) (row_of new)
    (get-mapped row_of rs i old lt ∙ ap (λ x. Some (row_of x)) (sym e)) s.same_output s.same_end f)

pub counts_new : (rs rs' : List Outcome) (more : Outcome) → rs' ≡ rs ++ more ∷ [] →
    ((x : Row) → Contains (rows_of rs) x → AreApart x (row_of more)) →
    Counts (rows_of rs) (row_of more) (rows_of rs')
counts_new rs rs' more e f =
    subst (λ xs. Counts (rows_of rs) (row_of more) xs)
    (sym (map-append row_of rs (more ∷ [])) ∙ ap rows_of (sym e))
    (counts-push (rows_of rs) (row_of more) f)

pub no_row_at : (rs : List Outcome) (more : Outcome) (at : ℕ) → length rs ≤ at →
    ((k : ℕ) (d : Outcome) → k < at → AreApart (row_of (slice_index_or rs k d)) (row_of more)) →
    (x : Row) → Contains (rows_of rs) x → AreApart x (row_of more)
no_row_at rs more at n f x m =
    let i = mapped-at row_of rs more x m in
    let lt : i.0 < length rs = i.1 in
    subst (λ z. AreApart z (row_of more)) i.2 (f i.0 more (omega (arith, n, lt)))

pub one_step : (p : Program) (s u : State) → IsPlain p s → u ≡ advance p s false → RunsOn p s 1 u
one_step p s u h e = record {
  leads = e;
  on = λ i lt. let z : i ≡ 0 = omega (arith, lt) in subst (λ k. IsPlain p (after_steps p s k)) (sym z) h;
}

-- a step, and then others
after-first : (p : Program) (s : State) (k : ℕ) → after_steps p s (suc k) ≡ after_steps p (advance p s false) k
after-first p s zero = refl
after-first p s (suc k) = ap (λ t. advance p t false) (after-first p s k)

pub first_step : (p : Program) (s u : State) (k : ℕ) → IsPlain p s → RunsOn p (advance p s false) k u →
    RunsOn p s (suc k) u
first_step p s u k h r = record { leads = r.leads ∙ sym (after-first p s k); on = plain_at }
  where
    plain_at : (i : ℕ) → i < suc k → IsPlain p (after_steps p s i)
    plain_at zero lt = h
    plain_at (suc i) lt = subst (IsPlain p) (sym (after-first p s i)) (r.on i (omega (arith, lt)))

pub over_limit : (n : Pending) → IsGoing (ask n.at.program n.at.state) → (0 < n.left → ⊥) →
    AreOver n at_limit
over_limit n g lt = record { same_runs = λ q. ahead-limit q n g (omega (arith, lt)) }

pub over_ended : (n : Pending) (f : Finish) → asked_at_end f ≡ Some (ask n.at.program n.at.state) →
    AreOver n f
over_ended n (finished x) a =
    let z : ended x ≡ ask n.at.program n.at.state = cc in
    record { same_runs = λ q. ahead-ended q n x (sym z) }
over_ended n at_limit a = let z : None ≡ Some (ask n.at.program n.at.state) = a in cc

pub goes_on_runs : (n m : Pending) (k : ℕ) →
    RunsOn n.at.program n.at.state k m.at.state → m.at.program ≡ n.at.program →
    k ≤ n.left → m.left ≡ n.left - k → m.count ≡ n.count → m.weight ≡ n.weight * 100 ^ k → m.choices ≡ n.choices →
    GoesOn n m
goes_on_runs n m k h p le s c v w = record {
  same_runs = λ q.
      let u = m.at.state in
      let t = tally m.at.program u m.left q in
      ahead-runs q n k u h le
      ∙ (ap (λ z. after n.count (n.weight * 100 ^ k) n.choices (tally z u (n.left - k) q)) (sym p)
      ∙ (ap (λ z. after n.count (n.weight * 100 ^ k) n.choices (tally m.at.program u z q)) (sym s)
      ∙ (ap (λ z. after z (n.weight * 100 ^ k) n.choices t) (sym c)
      ∙ (ap (λ z. after m.count z n.choices t) (sym v)
      ∙ ap (λ z. after m.count m.weight z t) (sym w)))));
  no_more = omega (arith, s);
}

-- amounts of fractions
pub merge_sum : (f g r : Fraction) (l : ℕ) → IsSum f g r → l + r.places ≤ 4294967295 →
    amount (top_of r) r.places l ≡ amount (top_of f) f.places l + amount (top_of g) g.places l
merge_sum f g r l h le =
    amount-plus (top_of f) (top_of g) (top_of r) f.places g.places r.places l h.one h.other le h.same

pub sum_fits : (f g r : Fraction) (l m : ℕ) → IsSum f g r → l + f.places ≤ 4294967295 → m + g.places ≤ 4294967295 →
    l ≡ m → l + r.places ≤ 4294967295
sum_fits f g r l m h u v e = elim h.is_either [
  | inl x ↦ omega (arith, x, u)
  | inr x ↦ omega (arith, x, v, e)
]

pub part_fits : (n l k : ℕ) (f r : Fraction) → IsPart n f r → l + f.places ≤ 4294967295 → 0 < l →
    l - 1 - k + r.places ≤ 4294967295
part_fits n l k f r h le lt = let w = h.within in omega (arith, w, le, lt)

-- hundredths of a copy
pub part_of_copy : (n : ℕ) (f g r : Fraction) → top_of g ≡ top_of f → g.places ≡ f.places → IsPart n g r → IsPart n f r
part_of_copy n f g r t p h = record {
  within = subst (λ z. r.places ≤ suc z) p h.within;
  same = subst (λ z. top_of r * 1000000000 ^ (suc z - r.places) ≡ top_of f * (n * 10000000)) p
      (h.same ∙ ap (λ z. z * (n * 10000000)) t);
}

pub chosen_part : (n l : ℕ) (f r : Fraction) → IsPart n f r → l + f.places ≤ 4294967295 → 0 < l →
    amount (top_of r) r.places (l - 1) ≡ n * amount (top_of f) f.places l
chosen_part n l f r h le lt =
    let m = l - 1 in
    let e : l ≡ suc m = omega (arith, lt) in
    amount-part n (top_of f) (top_of r) f.places r.places m h.within (omega (arith, le, e)) h.same
    ∙ ap (λ z. n * amount (top_of f) f.places z) (sym e)

pub row_end : (f : Fraction) (l : ℕ) → l + f.places ≤ 4294967295 →
    amount (top_of f) f.places 0 ≡ amount (top_of f) f.places l * 100 ^ l
row_end f l le = sym (amount-end (top_of f) f.places l le)

pub row_sum : (f g r : Fraction) → IsSum f g r → r.places ≤ 4294967295 →
    amount (top_of r) r.places 0 ≡ amount (top_of f) f.places 0 + amount (top_of g) g.places 0
row_sum f g r h le = merge_sum f g r 0 h (omega (arith, le))

pub moved_on : (f : Fraction) (k l : ℕ) → l + f.places ≤ 4294967295 → k ≤ l →
    amount (top_of f) f.places (l - k) ≡ amount (top_of f) f.places l * 100 ^ k
moved_on f k l le lt =
    let e : l ≡ k + (l - k) = omega (arith, lt) in
    sym (ap (λ z. amount (top_of f) f.places z * 100 ^ k) e
    ∙ amount-run k (top_of f) f.places (l - k) (omega (arith, le, lt)))

-- the node after a choice, and after steps that ask nothing
pub chosen_goes_on : (n m : Pending) (chance k : ℕ) (b : Bool) (f r : Fraction) → 0 < n.left →
    n.left + f.places ≤ 4294967295 → IsPart (part chance b) f r → n.weight ≡ amount (top_of f) f.places n.left →
    RunsOn n.at.program (advance n.at.program n.at.state b) k m.at.state →
    m.at.program ≡ n.at.program → k ≤ n.left - 1 → m.left ≡ n.left - 1 - k → m.count ≡ n.count →
    m.weight ≡ amount (top_of r) r.places (n.left - 1 - k) → m.choices ≡ n.choices ++ b ∷ [] →
    GoesOn (chosen chance n b) m
chosen_goes_on n m chance k b f r some fits h was runs p le s c v w =
    let all = part_fits (part chance b) n.left 0 f r h fits some in
    goes_on_runs (chosen chance n b) m k runs p le s c
    (v ∙ (moved_on r k (n.left - 1) (omega (arith, all)) le
    ∙ ap (λ z. z * 100 ^ k) (chosen_part (part chance b) n.left f r h fits some
    ∙ ap (λ z. part chance b * z) (sym was)))) w

-- the lemmas that a function uses together
pub ruleset counts_row = (counts_at, counts_new)
