-- Laws of histories.
use Rattle.std.proofs.Common.{◌≡◌, ℕ, zero, suc, ◌+◌, ◌<◌, Bool, false, List, [], ◌∷◌, ◌++◌, length}
use Rattle.std.proofs.Common.{take, drop, replicate, Option, Some, None, refl, ap, sym, ◌∙◌, subst, arith}
use Rattle.std.specs.Prelude.{slice_index_or}
use Rattle.std.proofs.Common.{get_or}
use Rattle.std.proofs.lemmas.List.{take_more}
use Rattle.std.proofs.lemmas.List.Elements.{filter_map-append}
use Rattle.std.proofs.Props.{props}
use Rattle.std.proofs.lemmas.List.{take-append-drop}
use Rattle.ick_code.specs.meaning.State.{State}
use Rattle.ick_code.specs.meaning.Move.{Asking, plain, choice, ended, ask, advance}
use Rattle.ick_backtrack.specs.Asked.{IsGoing}
use Rattle.ick_backtrack.specs.Machine.{Program}
use Rattle.ick_backtrack.specs.Steps.{after_steps, IsPlain}
use Rattle.ick_step.specs.History.{done_by, after, Answers, IsHistory, choices_in}

pub after-append : (p : Program) (s : State) (xs ys : List (Option Bool)) →
    after p s (xs ++ ys) ≡ after p (after p s xs) ys
after-append p s [] ys = refl
after-append p s (a ∷ xs) ys = after-append p (advance p s (done_by a)) xs ys

pub history-append : (p : Program) (s : State) (xs ys : List (Option Bool)) → IsHistory p s xs →
    IsHistory p (after p s xs) ys → IsHistory p s (xs ++ ys)
history-append p s [] ys h k = k
history-append p s (a ∷ xs) ys h k = (h.0, history-append p (advance p s (done_by a)) xs ys h.1 k)

pub history-front : (p : Program) (s : State) (xs ys : List (Option Bool)) → IsHistory p s (xs ++ ys) →
    IsHistory p s xs
history-front p s [] ys h = tt
history-front p s (a ∷ xs) ys h = (h.0, history-front p (advance p s (done_by a)) xs ys h.1)

pub history-rest : (p : Program) (s : State) (xs ys : List (Option Bool)) → IsHistory p s (xs ++ ys) →
    IsHistory p (after p s xs) ys
history-rest p s [] ys h = h
history-rest p s (a ∷ xs) ys h = history-rest p (advance p s (done_by a)) xs ys h.1

pub history-take : (p : Program) (s : State) (n : ℕ) (xs : List (Option Bool)) → IsHistory p s xs →
    IsHistory p s (take n xs)
history-take p s n xs h =
    history-front p s (take n xs) (drop n xs) (subst (IsHistory p s) (sym (take-append-drop n xs)) h)

-- steps at which nothing is asked
steps-first : (p : Program) (s : State) (k : ℕ) →
    after_steps p (advance p s false) k ≡ advance p (after_steps p s k) false
steps-first p s zero = refl
steps-first p s (suc k) = ap (λ t. advance p t false) (steps-first p s k)

pub after-plain : (p : Program) (s : State) (k : ℕ) → after p s (replicate k None) ≡ after_steps p s k
after-plain p s zero = refl
after-plain p s (suc k) = after-plain p (advance p s false) k ∙ steps-first p s k

plain_answer : (a : Asking) → a ≡ plain → Answers a None
plain_answer a e = subst (λ x. Answers x None) (sym e) tt

pub history-plain : (p : Program) (s : State) (k : ℕ) →
    ((i : ℕ) → i < k → IsPlain p (after_steps p s i)) → IsHistory p s (replicate k None)
history-plain p s zero on = tt
history-plain p s (suc k) on = (
  plain_answer (ask p s) (on 0 (omega arith)),
  history-plain p (advance p s false) k
      (λ i lt. subst (IsPlain p) (sym (steps-first p s i)) (on (suc i) (omega arith))),
)

-- a step that has an answer can be made
pub answer-going : (a : Asking) (b : Option Bool) → Answers a b → IsGoing a
answer-going plain b h = tt
answer-going (choice k) b h = tt
answer-going (ended e) b h = absurd h

-- two proofs of a history are the same
answers-prop : (a : Asking) (b : Option Bool) → IsProp (Answers a b)
answers-prop plain None = hlevel props
answers-prop plain (Some b) = hlevel props
answers-prop (choice k) None = hlevel props
answers-prop (choice k) (Some b) = hlevel props
answers-prop (ended e) b = hlevel props

pub history-prop : (p : Program) (s : State) (xs : List (Option Bool)) → IsProp (IsHistory p s xs)
history-prop p s [] = hlevel props
history-prop p s (a ∷ xs) =
    let one = answers-prop (ask p s) a in
    let rest = history-prop p (advance p s (done_by a)) xs in
    hlevel (props, one, rest)

-- the answer of a step fits what is asked before it
pub answer_there : (p : Program) (s : State) (xs : List (Option Bool)) (k : ℕ) (d : Option Bool) →
    IsHistory p s xs → k < length xs → Answers (ask p (after p s (take k xs))) (slice_index_or xs k d)
answer_there p s [] k d h lt = absurd (omega arith)
answer_there p s (x ∷ xs) zero d h lt = h.0
answer_there p s (x ∷ xs) (suc k) d h lt = answer_there p (advance p s (done_by x)) xs k d h.1 (omega arith)

pub history-same : (p q : Program) (s t : State) (xs : List (Option Bool)) → q ≡ p → t ≡ s → IsHistory p s xs →
    IsHistory q t xs
history-same p q s t xs program start h =
    subst (λ r. IsHistory r t xs) (sym program) (subst (λ u. IsHistory p u xs) (sym start) h)

-- the choices of one more step
pub choices-more : (xs : List (Option Bool)) (i : ℕ) (d : Option Bool) → i < length xs →
    choices_in (take (i + 1) xs) ≡ choices_in (take i xs) ++ choices_in (get_or xs i d ∷ [])
choices-more xs i d lt =
    ap choices_in (take_more xs i d lt) ∙ filter_map-append (λ a. a) (take i xs) (get_or xs i d ∷ [])
