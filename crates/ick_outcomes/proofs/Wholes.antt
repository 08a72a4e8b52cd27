-- Proves that the weights of all runs add up to 1, and that the counts add up to the length of the listing.
use Prim.Native.Nat.{zero, suc}
use Rattle.std.proofs.Common.{◌≡◌, ℕ, ◌+◌, ◌*◌, ◌-◌, ◌^◌, ◌≤◌, Bool, true, false, List, [], ◌∷◌}
use Rattle.std.proofs.Common.{refl, ap, sym, ◌∙◌, arith}
use Rattle.ick_code.specs.meaning.State.{State}
use Rattle.ick_code.specs.meaning.Move.{Asking, plain, choice, ended}
use Rattle.ick_outcomes.specs.Programs.{ask, advance, Program, IsWhole}
use Rattle.ick_outcomes.proofs.ProgramRuns.{chance_between}
use Rattle.ick_outcomes.specs.Weights.{whole, amount}
use Rattle.ick_outcomes.specs.Tallies.{Passes, Tally, tally, tally_at_limit, tally_on}
use Rattle.ick_outcomes.specs.Summaries.{Row, weight_of, count_of, CountsAll}
use Rattle.ick_outcomes.proofs.TallyRuns.{tallied}
use Rattle.ick_outcomes.specs.Accounts.{all_counted, any_outcome, AreCounted, Sorts}
use Rattle.ick_outcomes.proofs.Amounts.{amount-end}

limit-whole : (a : Asking) (s : State) → (tally_at_limit any_outcome a s).weight ≡ 1
limit-whole (ended e) s = refl
limit-whole plain s = refl
limit-whole (choice k) s = refl

step-whole : (p : Program) (s : State) (l : ℕ) (a : Asking) → ask p s ≡ a → (rest : Bool → Tally) →
    ((b : Bool) → (rest b).weight ≡ 100 ^ l) → (tally_on any_outcome a s l rest).weight ≡ 100 ^ suc l
step-whole p s l (ended e) h rest f = refl
step-whole p s l plain h rest f =
    let n : 100 * 100 ^ l ≡ 100 ^ suc l = grind arith in ap (λ x. 100 * x) (f false) ∙ n
step-whole p s l (choice k) h rest f =
    let b = chance_between p s k h in
    let v = 100 ^ l in
    let m : 100 - k + k ≡ 100 = omega (arith, b) in
    let d : (100 - k) * v + k * v ≡ (100 - k + k) * v = grind arith in
    let n : 100 * 100 ^ l ≡ 100 ^ suc l = grind arith in
    ap (λ x. (100 - k) * x + k * (rest true).weight) (f false)
    ∙ (ap (λ x. (100 - k) * v + k * x) (f true) ∙ (d ∙ (ap (λ x. x * v) m ∙ n)))

tally-whole : (p : Program) (s : State) (l : ℕ) → (tally p s l any_outcome).weight ≡ 100 ^ l
unfolding tally
tally-whole p s zero = limit-whole (ask p s) s
tally-whole p s (suc l) =
    step-whole p s l (ask p s) refl (λ b. tally p (advance p s b) l any_outcome) (λ b. tally-whole p (advance p s b) l)

all-weights : (rs : List Row) → (all_counted any_outcome rs).weight ≡ weight_of rs
all-weights [] = refl
all-weights (r ∷ rs) = ap (λ n. r.weight + n) (all-weights rs)

pub whole_of : (p : Program) (s : State) (limit : ℕ) (rs rs' : List Row) → limit ≤ 4294967295 →
    AreCounted p s limit rs → Sorts rs rs' → weight_of rs' ≡ whole
whole_of p s limit rs rs' le h k =
    let w = amount 1 0 limit in
    let one : amount 1 0 0 ≡ whole = omega arith in
    sym (all-weights rs')
    ∙ (ap (λ t. t.weight) (k.same_counted any_outcome ∙ sym (h.counted_all any_outcome))
    ∙ (ap (λ n. w * n) (tally-whole p s limit)
    ∙ (amount-end 1 0 limit (omega (arith, le)) ∙ one)))

all-counts : (rs : List Row) → (all_counted any_outcome rs).count ≡ count_of rs
all-counts [] = refl
all-counts (r ∷ rs) = ap (λ n. r.count + n) (all-counts rs)

any-passes : (p : Program) (s : State) (l : ℕ) (c : List Bool) → IsWhole p s l c → Passes p s l any_outcome c
any-passes p s l c w = record { whole = w; passed = refl }

-- the tally of all runs has their number
pub all_runs : (p : Program) (s : State) (limit : ℕ) → CountsAll p s limit (tally p s limit any_outcome).count
all_runs p s limit =
    let u = tallied p s limit any_outcome in
    record {
      listing = u.0;
      is_listing = record {
        increasing = u.1.increasing;
        sound = λ c m. (u.1.sound c m).whole;
        complete = λ c w. u.1.complete c (any-passes p s limit c w);
      };
      counted = u.1.counted;
    }

pub counts_of : (p : Program) (s : State) (limit : ℕ) (rs rs' : List Row) → AreCounted p s limit rs → Sorts rs rs' →
    CountsAll p s limit (count_of rs')
counts_of p s limit rs rs' h k =
    let t = tally p s limit any_outcome in
    let one : 1 * t.count ≡ t.count = omega arith in
    let all = all_runs p s limit in
    record {
      listing = all.listing;
      is_listing = all.is_listing;
      counted = sym (all-counts rs')
          ∙ (ap (λ z. z.count) (k.same_counted any_outcome ∙ sym (h.counted_all any_outcome))
          ∙ (one ∙ all.counted));
    }
