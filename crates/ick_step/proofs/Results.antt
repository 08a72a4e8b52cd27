-- What holds of a result in one of its cases.
use Rattle.std.proofs.Common.{◌≡◌, ℕ, ◌+◌, ◌-◌, ◌*◌, ◌<◌, ◌≤◌, ◌++◌, List, length, take, replicate, Bool, Option, None}
use Rattle.std.proofs.Common.{ap, ap₂, ◌∙◌, arith}
use Rattle.std.proofs.lemmas.List.{take_all}
use Rattle.std.specs.Prelude.{◌⊎◌, Result, Ok, Err, IfErr, IfOk, OnOk, OnErr}
use Rattle.std.proofs.Common.{inl, inr}
use Rattle.ick_explorer.specs.declared.errors.RunsError.{RunsError}
use Rattle.ick_explorer.specs.declared.errors.RunsError.TheVariants.{NoMemory, WorkFull}
use Rattle.ick_backtrack.specs.Machine.{Machine}
use Rattle.ick_backtrack.specs.Steps.{HasRun}
use Rattle.ick_step.specs.Seen.{IsKept, Seen, seen_at, later}
use Rattle.ick_step.proofs.MarkLaws.{kept_cut}

pub on_ok : {T E : Type 0} (r : Result T E) {P Q : Type 0} → OnOk r P → (P → Q) → OnOk r Q
on_ok (Ok t) h f = f h
on_ok (Err e) h f = tt

pub on_err : {T E : Type 0} (r : Result T E) {P Q : Type 0} → OnErr r P → (P → Q) → OnErr r Q
on_err (Ok t) h f = tt
on_err (Err e) h f = f h

pub at_err : {T E : Type 0} (r : Result T E) (P : Type 0) → P → OnErr r P
at_err (Ok t) P p = tt
at_err (Err e) P p = p

pub if_ok : {T E : Type 0} (r : Result T E) {P Q : T → Type 0} → IfOk r P → ((t : T) → P t → Q t) → IfOk r Q
if_ok (Ok t) h f = f t h
if_ok (Err e) h f = tt

-- what a run leaves whose steps were noted, however it ended
pub record NotedRun {E : Type 0} (r : Result ℕ E) (m m' : Machine) (xs zs : List (Option Bool)) (most : ℕ)
    : Type 0 where
  pub kept : IsKept m' zs
  pub ok : IfOk r (λ k. seen_at m' zs ≡ later k (seen_at m xs))
  pub err : OnErr r ((k : ℕ) × (k ≤ most) × (seen_at m' zs ≡ later k (seen_at m xs)))

-- answers are noted for as many steps as are allowed, and those of the steps that weren't made are cut off
cut_run : (m m' : Machine) (xs ys zs : List (Option Bool)) (steps size most before work k : ℕ) → IsKept m xs →
    HasRun m k m' → k ≤ most → steps ≡ length xs → size ≡ length xs →
    length xs + most ≤ 1000 * length m.marks → 0 < length m.marks →
    ys ≡ take (steps + most) xs ++ replicate (steps + most - size) None → before ≡ m.work → work ≡ m'.work →
    zs ≡ take (steps + (work - before)) ys → IsKept m' zs × (seen_at m' zs ≡ later k (seen_at m xs))
cut_run m m' xs ys zs steps size most before work k h ran le is_steps is_size room some grown is_before is_work cut =
    let more : m'.work ≡ m.work + k = ap (λ x. x.work) ran.machine_is in
    let all : length xs ≤ steps + most = omega (arith, is_steps) in
    let rest : steps + most - size ≡ most = omega (arith, is_steps, is_size) in
    let made : steps + (work - before) ≡ length xs + k = omega (arith, is_steps, is_before, is_work, more) in
    kept_cut m m' xs ys zs k most h ran le room some
    (grown ∙ ap₂ (λ l n. l ++ replicate n None) (take_all (steps + most) xs all) rest)
    (cut ∙ ap (λ n. take n ys) made)

pub noted_run : {E : Type 0} (r : Result ℕ E) (m m' : Machine) (xs ys zs : List (Option Bool))
    (steps size most before work : ℕ) → IsKept m xs → IfOk r (λ k. HasRun m k m') → IfOk r (λ k. k ≤ most) →
    OnErr r ((k : ℕ) × (k < most) × HasRun m k m') → steps ≡ length xs → size ≡ length xs →
    length xs + most ≤ 1000 * length m.marks → 0 < length m.marks →
    ys ≡ take (steps + most) xs ++ replicate (steps + most - size) None → before ≡ m.work → work ≡ m'.work →
    zs ≡ take (steps + (work - before)) ys → NotedRun r m m' xs zs most
noted_run (Ok k) m m' xs ys zs steps size most before work h ran le stopped is_steps is_size room some grown
    is_before is_work cut =
    let r = cut_run m m' xs ys zs steps size most before work k h ran le is_steps is_size room some grown is_before
    is_work cut in
    record { kept = r.0; ok = r.1; err = tt }
noted_run (Err e) m m' xs ys zs steps size most before work h ran le stopped is_steps is_size room some grown
    is_before is_work cut =
    let k = stopped.0 in
    let lt : k < most = stopped.1 in
    let r = cut_run m m' xs ys zs steps size most before work k h stopped.2 (omega (arith, lt)) is_steps is_size room
    some grown is_before is_work cut in
    record { kept = r.0; ok = tt; err = (k, omega (arith, lt), r.1) }

-- going all steps back is refused no memory
pub no_memory_left : {A : Type 0} (r : Result A RunsError) (s t : Seen) (steps : ℕ) →
    IfErr r (λ e. (e ≡ NoMemory) ⊎ ((e ≡ WorkFull) × (t ≡ s))) →
    (r ≡ Err NoMemory → (n : ℕ) × (n < length s.answers - steps) × (t.answers ≡ take n s.answers)) →
    length s.answers ≤ steps → IfErr r (λ e. (e ≡ WorkFull) × (t ≡ s))
no_memory_left (Ok x) s t steps errors left all = tt
no_memory_left (Err e) s t steps (inr full) left all = full
no_memory_left (Err e) s t steps (inl memory) left all =
    let found = left (ap Err memory) in absurd (omega (arith, found.1, all))
