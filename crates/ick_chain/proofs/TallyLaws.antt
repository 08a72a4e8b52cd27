-- Proves that the weights under a limit are those of tallies.
use Prim.Native.Nat.{zero, suc}
use Rattle.std.proofs.Common.{◌≡◌, ℕ, ◌+◌, ◌*◌, ◌-◌, ◌^◌, Bool, true, false, refl, ap, sym, ◌∙◌}
use Rattle.ick_code.specs.meaning.State.{State, Ending}
use Rattle.ick_code.specs.meaning.Move.{Asking, plain, choice, ended}
use Rattle.ick_outcomes.specs.Programs.{ask, advance, Program}
use Rattle.ick_outcomes.proofs.ProgramRuns.{end_is}
use Rattle.ick_backtrack.specs.Asked.{finished}
use Rattle.ick_explorer.specs.Runs.{ends}
use Rattle.ick_chain.specs.Limits.{all_if, ended_now, ended_on, ended_weight, going_now, going_on, going_weight}
use Rattle.ick_outcomes.specs.Tallies.{Test, Tally, one, tally, tally_at_limit, tally_on, stop_text}
use Rattle.ick_chain.specs.Tallied.{by_end, of_states, IsOfEnded, IsOfLimit, AreTallied}

one-weight : (b : Bool) (l : ℕ) → (one b l).weight ≡ all_if b (100 ^ l)
one-weight true l = refl
one-weight false l = refl

pub test-is : (q : Test) (p : Program) (s : State) (e : Ending) → ask p s ≡ ended e →
    q s.output (stop_text (ends (finished e))) ≡ of_states q s
test-is q p s e h = sym (ap (λ o. by_end q s.output o) (end_is p s e h))

ended-start : (p : Program) (q : Test) → IsOfEnded q → (s : State) (a : Asking) → ask p s ≡ a →
    (tally_at_limit q a s).weight ≡ ended_now (of_states q) a s
ended-start p q k s (ended e) h =
    one-weight (q s.output (stop_text (ends (finished e)))) 0 ∙ ap (λ b. all_if b 1) (test-is q p s e h)
ended-start p q k s plain h = ap (λ b. (one b 0).weight) (k.limit s.output)
ended-start p q k s (choice c) h = ap (λ b. (one b 0).weight) (k.limit s.output)

ended-step : (p : Program) (q : Test) → (s : State) (a : Asking) → ask p s ≡ a → (l : ℕ) (r : Bool → Tally) (t : Bool → ℕ) →
    ((b : Bool) → (r b).weight ≡ t b) → (tally_on q a s l r).weight ≡ ended_on (of_states q) a s l t
ended-step p q s (ended e) h l r t f =
    one-weight (q s.output (stop_text (ends (finished e)))) (suc l)
    ∙ ap (λ b. all_if b (100 ^ suc l)) (test-is q p s e h)
ended-step p q s plain h l r t f = ap (λ n. 100 * n) (f false)
ended-step p q s (choice c) h l r t f =
    ap (λ n. (100 - c) * n + c * (r true).weight) (f false) ∙ ap (λ n. (100 - c) * t false + c * n) (f true)

ended-tally : (p : Program) (q : Test) → IsOfEnded q → (s : State) (l : ℕ) →
    (tally p s l q).weight ≡ ended_weight p (of_states q) s l
unfolding tally ended_weight
ended-tally p q k s zero = ended-start p q k s (ask p s) refl
ended-tally p q k s (suc l) =
    ended-step p q s (ask p s) refl l (λ b. tally p (advance p s b) l q)
    (λ b. ended_weight p (of_states q) (advance p s b) l) (λ b. ended-tally p q k (advance p s b) l)

going-start : (p : Program) (q : Test) → IsOfLimit q → (s : State) (a : Asking) →
    (tally_at_limit q a s).weight ≡ going_now a
going-start p q k s (ended e) = ap (λ b. (one b 0).weight) (k.over s.output e)
going-start p q k s plain = ap (λ b. (one b 0).weight) (k.limit s.output)
going-start p q k s (choice c) = ap (λ b. (one b 0).weight) (k.limit s.output)

going-step : (q : Test) → IsOfLimit q → (s : State) (a : Asking) (l : ℕ) (r : Bool → Tally) (t : Bool → ℕ) →
    ((b : Bool) → (r b).weight ≡ t b) → (tally_on q a s l r).weight ≡ going_on a t
going-step q k s (ended e) l r t f = ap (λ b. (one b (suc l)).weight) (k.over s.output e)
going-step q k s plain l r t f = ap (λ n. 100 * n) (f false)
going-step q k s (choice c) l r t f =
    ap (λ n. (100 - c) * n + c * (r true).weight) (f false) ∙ ap (λ n. (100 - c) * t false + c * n) (f true)

going-tally : (p : Program) (q : Test) → IsOfLimit q → (s : State) (l : ℕ) → (tally p s l q).weight ≡ going_weight p s l
unfolding tally going_weight
going-tally p q k s zero = going-start p q k s (ask p s)
going-tally p q k s (suc l) =
    going-step q k s (ask p s) l (λ b. tally p (advance p s b) l q)
    (λ b. going_weight p (advance p s b) l) (λ b. going-tally p q k (advance p s b) l)

pub tallied : (p : Program) (s : State) (limit : ℕ) → AreTallied p s limit
tallied p s limit = record { ended = λ q k. ended-tally p q k s limit; going = λ q k. going-tally p q k s limit }
