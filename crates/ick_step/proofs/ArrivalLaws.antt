-- Steps until the first state of a kind.
use Rattle.std.proofs.Common.{◌≡◌, ℕ, ◌+◌, ◌^◌, ◌<◌, ◌≤◌, ◌⊎◌, inl, inr, Bool, false, ap}
use Rattle.std.specs.Prelude.{Result, Ok, Err}
use Rattle.std.proofs.lemmas.Bool.{cases_lt}
use Rattle.std.proofs.Common.{sym, ◌∙◌, arith, subst}
use borrow.Author.Count.{below_more}
use Rattle.ick_code.specs.meaning.State.{State}
use Rattle.ick_explorer.specs.declared.errors.RunsError.{RunsError}
use Rattle.ick_explorer.specs.declared.errors.RunsError.TheVariants.{NoMemory, WorkFull}
use Rattle.ick_step.specs.Arrival.{Breaks, IsBreak}
use Rattle.ick_step.specs.Seen.{Seen, IsFull, later, present}
use Rattle.ick_step.proofs.MarkLaws.{later-later}

-- the kind holds of none of the states after the first steps
abbrev pub NotYet : (State → Bool) → Seen → ℕ → Type 0
NotYet here s made = (i : ℕ) → i < made + 1 → 0 < i → here (present (later i s)) ≡ false

pub not_first : (here : State → Bool) (s : Seen) → NotYet here s 0
not_first here s i lt some = absurd (omega arith)

pub not_next : (here : State → Bool) (s new : Seen) (t : State) (made : ℕ) → NotYet here s made →
    new ≡ later (made + 1) s → t ≡ present new → here t ≡ false → NotYet here s (made + 1)
not_next here s new t made before is state none =
    below_more (λ i. 0 < i → here (present (later i s)) ≡ false) (made + 1) before
    (λ _. ap here (sym (state ∙ ap present is)) ∙ none)

pub one_more : (s cur new : Seen) (made more : ℕ) → cur ≡ later made s → new ≡ later more cur → 0 < more → more ≤ 1 →
    new ≡ later (made + 1) s
one_more s cur new made more before step some few =
    let one : more ≡ 1 = omega (arith, some, few) in
    step ∙ (ap (later more) before ∙ (later-later s made more ∙ ap (λ k. later (made + k) s) one))

-- a refused step
pub refused_at : (here : State → Bool) (s cur new : Seen) (limit made : ℕ) (e : RunsError) → made < limit →
    NotYet here s made → cur ≡ later made s → IsBreak new e →
    (e ≡ WorkFull → new ≡ cur) → (e ≡ NoMemory → (k : ℕ) × (k ≤ 1) × (new ≡ later k cur)) → Breaks here s limit new
refused_at here s cur new limit made e within before is (inl no_memory) same some =
    let r = some no_memory in
    let few = r.1 in
    record {
      made = made + r.0;
      within = omega (arith, few, within);
      before = λ i low lt. before i (omega (arith, few, lt)) low;
      is = r.2 ∙ (ap (later r.0) is ∙ later-later s made r.0);
    }
refused_at here s cur new limit made e within before is (inr full) same some = record {
  made = made;
  within = omega (arith, within);
  before = λ i low lt. before i (omega (arith, lt)) low;
  is = same full.0 ∙ is;
}

-- why it is refused
pub refused_by : (cur new : Seen) (e : RunsError) → (e ≡ NoMemory) ⊎ ((e ≡ WorkFull) × (new ≡ cur)) →
    (e ≡ WorkFull → IsFull cur 1) → IsBreak new e
refused_by cur new e (inl no_memory) full = inl no_memory
refused_by cur new e (inr no_work) full =
    inr (no_work.0, subst (λ s. IsFull s 1) (sym no_work.1) (full no_work.0))

pub as_before : (cur new : Seen) (e : RunsError) → (e ≡ NoMemory) ⊎ ((e ≡ WorkFull) × (new ≡ cur)) → e ≡ WorkFull →
    new ≡ cur
as_before cur new e (inl no_memory) is = absurd (cc)
as_before cur new e (inr no_work) is = no_work.1

-- a step was made, so the count of work had room for it at the start too
pub had_room : (s cur : Seen) (made k : ℕ) (r : Result ℕ RunsError) → cur ≡ later made s → r ≡ Ok k →
    (IsFull cur 1 → r ≡ Err WorkFull) → s.work + 1 < 2 ^ 64
had_room s cur made k r is ok full = elim (cases_lt (s.work + 1) (2 ^ 64)) [
  | inl room ↦ room
  | inr none ↦
      let more : cur.work ≡ s.work + made = ap (λ x. x.work) is in
      let refused : r ≡ Err WorkFull = full (omega (arith, more, none)) in
      absurd (cc)
]

pub full_later : (s cur : Seen) (made : ℕ) → cur ≡ later made s → IsFull s 1 → IsFull cur 1
full_later s cur made is full = let more : cur.work ≡ s.work + made = ap (λ x. x.work) is in omega (arith, more, full)
