-- Proves that a program has more runs than nodes that wait.
use Prim.Native.Nat.{zero, suc}
use Rattle.std.proofs.Common.{◌≡◌, ℕ, ◌<◌, ◌≤◌, Bool, List, [], ◌∷◌, ◌++◌, length}
use Rattle.std.proofs.Common.{Result, Err, ap, sym, ◌∙◌, subst, false, append_assoc, arith}
use Rattle.std.specs.Result.{IsErrAnd}
use Rattle.std.proofs.Math.Nat.{mul-pos}
use Rattle.std.proofs.lemmas.List.{map-append}
use Rattle.ick_code.specs.meaning.State.{State}
use Rattle.ick_code.specs.meaning.Move.{Asking, plain, choice, ended}
use Rattle.ick_outcomes.specs.Programs.{ask, advance, Program}
use Rattle.ick_outcomes.specs.Tallies.{Tally, tally, tally_at_limit, tally_on}
use Rattle.ick_outcomes.specs.Summaries.{HasMoreRuns}
use Rattle.ick_outcomes.specs.Weights.{amount}
use Rattle.ick_outcomes.specs.Accounts.{Configuration, ahead, all_ahead, any_outcome}
use Rattle.ick_outcomes.specs.Searches.{Adds, IsAccount, TakesDue, nodes_in, runs_with}
use Rattle.ick_outcomes.specs.Seen.{pending_of, nodes_of}
use Rattle.ick_outcomes.specs.declared.pending.Node.{Node}
use Rattle.ick_outcomes.specs.declared.bucket.Bucket.{Bucket}
use Rattle.ick_outcomes.specs.declared.search.Search.{Search}
use Rattle.ick_outcomes.proofs.Searching.{takes_runs}
use Rattle.ick_outcomes.proofs.Sums.{joined-append}
use Rattle.ick_outcomes.proofs.Wholes.{all_runs}

limit-some : (a : Asking) (s : State) → 0 < (tally_at_limit any_outcome a s).count
limit-some (ended e) s = omega arith
limit-some plain s = omega arith
limit-some (choice k) s = omega arith

step-some : (a : Asking) (s : State) (l : ℕ) (rest : Bool → Tally) → ((b : Bool) → 0 < (rest b).count) →
    0 < (tally_on any_outcome a s l rest).count
step-some (ended e) s l rest f = omega arith
step-some plain s l rest f = f false
step-some (choice k) s l rest f = let h = f false in omega (arith, h)

-- a run goes on from each state
tally-some : (p : Program) (s : State) (l : ℕ) → 0 < (tally p s l any_outcome).count
unfolding tally
tally-some p s zero = limit-some (ask p s) s
tally-some p s (suc l) =
    step-some (ask p s) s l (λ b. tally p (advance p s b) l any_outcome) (λ b. tally-some p (advance p s b) l)

-- and from each node
nodes-some : {S : Type 0} (seen : S → Configuration) (ns : List (Node S)) →
    length ns ≤ (all_ahead any_outcome (nodes_of seen ns)).count
nodes-some seen [] = omega arith
nodes-some seen (n ∷ ns) =
    let k : 0 < (pending_of seen n).count = n.some in
    let t = tally-some (seen n.state).program (seen n.state).state n.left in
    let one = mul-pos k t in
    let more = nodes-some seen ns in
    omega (arith, one, more)

-- more nodes than so many wait after some nodes that were due, so more runs than so many go on from all of them and from
-- those that waited before, or are in rows
pub too_many : {S : Type 0} (seen : S → Configuration) (suits : S → Type 0) (due made rest : List (Node S)) (n : Node S)
    (left most : ℕ) (s s' : Search S) → due ≡ made ++ n ∷ rest →
    Adds seen suits (λ q. all_ahead q (nodes_of seen (made ++ n ∷ []))) left s s' → most < s'.count →
    most < runs_with seen due s
too_many seen suits due made rest n left most s s' e h lt =
    let now = made ++ n ∷ [] in
    let same : now ++ rest ≡ made ++ n ∷ rest = append_assoc made (n ∷ []) rest in
    let whole = ap (λ ns. (all_ahead any_outcome (nodes_of seen ns)).count) (e ∙ sym same)
    ∙ (ap (λ ns. (all_ahead any_outcome ns).count) (map-append (pending_of seen) now rest)
    ∙ ap (λ t. t.count) (joined-append (ahead any_outcome) (nodes_of seen now) (nodes_of seen rest))) in
    let counts = ap (λ t. t.count) (h.added any_outcome) in
    let few = h.filed.few in
    let many = nodes-some seen (nodes_in s'.buckets.items) in
    omega (arith, whole, counts, few, many, lt)

-- and more runs than so many go on from the first node
pub more_runs : {S : Type 0} (seen : S → Configuration) (suits : S → Type 0) (p : Configuration) (limit most : ℕ)
    (due : Bucket S) (s s' : Search S) →
    IsAccount seen suits (record { at = p; left = limit; count = 1; weight = amount 1 0 limit; choices = [] }) s →
    TakesDue due s s' → most < runs_with seen due.nodes.items s' → HasMoreRuns p.program p.state limit most
more_runs seen suits p limit most due s s' h k lt =
    let counts = ap (λ t. t.count) (h.whole any_outcome ∙ takes_runs seen suits due s s' k any_outcome) in
    record {
      runs = (tally p.program p.state limit any_outcome).count;
      counted = all_runs p.program p.state limit;
      more = omega (arith, counts, lt);
    }

-- what holds of an error holds of the error that is answered
pub error_holds : {T E : Type 0} (P : E → Type 0) (r : Result T E) (x : E) → IsErrAnd r P → r ≡ Err x → P x
error_holds P r x h e = subst (λ z. IsErrAnd z P) e h
