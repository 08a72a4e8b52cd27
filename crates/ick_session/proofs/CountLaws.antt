-- How many choices are among answers.
use Rattle.std.proofs.Common.{◌≡◌, ℕ, zero, suc, ◌+◌, ◌<◌, ◌≤◌, Bool, List, [], ◌∷◌, ◌++◌, length, take, get_or, replicate}
use Rattle.std.proofs.Common.{Option, Some, None, is_some, true, false, refl, ap, ◌∙◌, arith, length-append, ◌⊎◌, inl, inr}
use Rattle.std.specs.Prelude.{Result, Ok, Err, IfOk, IfErr}
use Rattle.std.proofs.lemmas.List.{append-nil, take_more}
use Rattle.std.proofs.lemmas.List.Elements.{filter_map-append}
use Rattle.std.proofs.Props.{props}
use mathlib.Core.Logic.{∥∥₁_elim}
use Rattle.ick_explorer.specs.declared.errors.RunsError.{RunsError}
use Rattle.ick_explorer.specs.declared.errors.RunsError.TheVariants.{NoMemory, WorkFull}
use Rattle.ick_step.specs.History.{choices_in}
use Rattle.ick_step.specs.Seen.{Seen, later}

joined : (xs ys : List (Option Bool)) → choices_in (xs ++ ys) ≡ choices_in xs ++ choices_in ys
joined xs ys = filter_map-append (λ a. a) xs ys

pub one_choice : (xs : List (Option Bool)) (b : Bool) →
    length (choices_in (xs ++ Some b ∷ [])) ≡ length (choices_in xs) + 1
one_choice xs b = ap length (joined xs (Some b ∷ [])) ∙ length-append (choices_in xs) (b ∷ [])

no_choices : (k : ℕ) → choices_in (replicate k None) ≡ []
no_choices zero = refl
no_choices (suc k) = no_choices k

pub no_choice : (xs : List (Option Bool)) (k : ℕ) →
    length (choices_in (xs ++ replicate k None)) ≡ length (choices_in xs)
no_choice xs k =
    ap length (joined xs (replicate k None)
    ∙ (ap (λ l. choices_in xs ++ l) (no_choices k) ∙ append-nil (choices_in xs)))

pub choices_within : (xs : List (Option Bool)) → length (choices_in xs) ≤ length xs
choices_within [] = omega arith
choices_within (None ∷ xs) = let h = choices_within xs in omega arith
choices_within (Some b ∷ xs) = let h = choices_within xs in omega arith

-- one more answer
pub taken_choice : (xs : List (Option Bool)) (k : ℕ) (d : Option Bool) (b : Bool) → k < length xs →
    get_or xs k d ≡ Some b → length (choices_in (take (k + 1) xs)) ≡ length (choices_in (take k xs)) + 1
taken_choice xs k d b lt e =
    ap (λ l. length (choices_in l)) (take_more xs k d lt ∙ ap (λ a. take k xs ++ a ∷ []) e)
    ∙ one_choice (take k xs) b

pub taken_none : (xs : List (Option Bool)) (k : ℕ) (d : Option Bool) → k < length xs → get_or xs k d ≡ None →
    length (choices_in (take (k + 1) xs)) ≡ length (choices_in (take k xs))
taken_none xs k d lt e =
    ap (λ l. length (choices_in l)) (take_more xs k d lt ∙ ap (λ a. take k xs ++ a ∷ []) e)
    ∙ no_choice (take k xs) 1

some_case : (xs : List (Option Bool)) (k : ℕ) (d a : Option Bool) → k < length xs → get_or xs k d ≡ a →
    is_some a ≡ true → length (choices_in (take (k + 1) xs)) ≡ length (choices_in (take k xs)) + 1
some_case xs k d None lt e h = absurd (cc)
some_case xs k d (Some b) lt e h = taken_choice xs k d b lt e

pub taken_some : (xs : List (Option Bool)) (k : ℕ) (d : Option Bool) → k < length xs →
    is_some (get_or xs k d) ≡ true → length (choices_in (take (k + 1) xs)) ≡ length (choices_in (take k xs)) + 1
taken_some xs k d lt h = some_case xs k d (get_or xs k d) lt refl h

none_case : (xs : List (Option Bool)) (k : ℕ) (d a : Option Bool) → k < length xs → get_or xs k d ≡ a →
    is_some a ≡ false → length (choices_in (take (k + 1) xs)) ≡ length (choices_in (take k xs))
none_case xs k d None lt e h = taken_none xs k d lt e
none_case xs k d (Some b) lt e h = absurd (cc)

pub taken_not_some : (xs : List (Option Bool)) (k : ℕ) (d : Option Bool) → k < length xs →
    is_some (get_or xs k d) ≡ false → length (choices_in (take (k + 1) xs)) ≡ length (choices_in (take k xs))
taken_not_some xs k d lt h = none_case xs k d (get_or xs k d) lt refl h

-- a step at which nothing is asked answers no choice, whether memory or work are refused for it or not
pub none_counted : (most : ℕ) (r : Result ℕ RunsError) (s t : Seen) →
    IfErr r (λ e. (e ≡ NoMemory) ⊎ ((e ≡ WorkFull) × (t ≡ s))) → IfOk r (λ k. t ≡ later k s) →
    (r ≡ Err NoMemory → (k : ℕ) × (k ≤ most) × (t ≡ later k s)) →
    length (choices_in t.answers) ≡ length (choices_in s.answers)
none_counted most (Ok k) s t errors ok no_memory = ap (λ v. length (choices_in v.answers)) ok ∙ no_choice s.answers k
none_counted most (Err e) s t (inl memory) ok no_memory =
    let made = no_memory (ap Err memory) in
    ap (λ v. length (choices_in v.answers)) made.2 ∙ no_choice s.answers made.0
none_counted most (Err e) s t (inr full) ok no_memory = ap (λ v. length (choices_in v.answers)) full.1

-- a fact on numbers that was kept
pub equal_of : (m n : ℕ) → ∥ m ≡ n ∥₁ → m ≡ n
equal_of m n h = let prop : IsProp (m ≡ n) = hlevel props in ∥∥₁_elim h prop (λ x. x)
