-- The choices of a history name the runs that begin with its steps.
use Rattle.std.proofs.Common.{◌≡◌, ℕ, zero, suc, ◌+◌, ◌≤◌, Bool, List, [], ◌∷◌, ◌++◌, length, Option, Some, None}
use Rattle.std.proofs.Common.{refl, ap, ◌∙◌, arith}
use Rattle.ick_code.specs.meaning.State.{State}
use Rattle.ick_code.specs.meaning.Move.{Asking, plain, choice, ended, ask, advance}
use Rattle.ick_backtrack.specs.Machine.{Program}
use Rattle.ick_explorer.specs.Runs.{Execution, stepped, run}
use Rattle.ick_explorer.specs.Paths.{later, Leads}
use Rattle.ick_explorer.proofs.RunLaws.{run-plain, run-choice}
use Rattle.ick_step.specs.History.{done_by, after, Answers, IsHistory, choices_in}

later-zero : (r : Execution) → r ≡ later 0 r
later-zero r = let e : r.steps ≡ 0 + r.steps = omega arith in ap (λ n. record r { steps = n }) e

stepped-later : (n k : ℕ) (r : Execution) → k ≡ suc n → stepped (later n r) ≡ later k r
stepped-later n k r is =
    let e : suc (n + r.steps) ≡ k + r.steps = omega (arith, is) in ap (λ i. record r { steps = i }) e

-- the first step of a run is that of the answer
first_step : (p : Program) (s : State) (l : ℕ) (a : Option Bool) (xs : List (Option Bool)) (more : List Bool)
    (q : Asking) → ask p s ≡ q → Answers q a → run p s (suc l) (choices_in (a ∷ xs) ++ more)
    ≡ stepped (run p (advance p s (done_by a)) l (choices_in xs ++ more))
first_step p s l None xs more plain is h = run-plain p s l (choices_in xs ++ more) is
first_step p s l (Some b) xs more plain is h = absurd h
first_step p s l None xs more (choice k) is h = absurd h
first_step p s l (Some b) xs more (choice k) is h = run-choice p s l k b (choices_in xs ++ more) is
first_step p s l a xs more (ended e) is h = absurd h

goes_on : (p : Program) (xs : List (Option Bool)) (s : State) (l m : ℕ) (more : List Bool) → IsHistory p s xs →
    length xs + m ≡ l → run p s l (choices_in xs ++ more) ≡ later (length xs) (run p (after p s xs) m more)
goes_on p [] s l m more h e =
    let same : l ≡ m = omega arith in ap (λ k. run p s k more) same ∙ later-zero (run p s m more)
goes_on p (a ∷ xs) s zero m more h e = absurd (omega arith)
goes_on p (a ∷ xs) s (suc l) m more h e =
    let left : length xs + m ≡ l = omega arith in
    let t = advance p s (done_by a) in
    first_step p s l a xs more (ask p s) refl h.0
    ∙ (ap stepped (goes_on p xs t l m more h.1 left)
    ∙ stepped-later (length xs) (length (a ∷ xs)) (run p (after p t xs) m more) (omega arith))

pub history-leads : (p : Program) (s : State) (xs : List (Option Bool)) (limit : ℕ) → IsHistory p s xs →
    length xs ≤ limit → Leads p s limit (choices_in xs) (after p s xs) (length xs)
history-leads p s xs limit h within = record {
  within = within;
  goes_on = λ m more e. goes_on p xs s limit m more h e;
}
