-- Where steps stop that lead to a state of some kind.
use Rattle.std.specs.Prelude.{◌≡◌, ℕ, ◌==◌, ◌<◌, ◌≤◌, ◌⊎◌, Bool, true, false, not, nat_lt, length}
use Rattle.ick_code.specs.meaning.State.{State}
use Rattle.ick_backtrack.specs.Steps.{IsPlain}
use Rattle.ick_explorer.specs.declared.errors.RunsError.{RunsError}
use Rattle.ick_explorer.specs.declared.errors.RunsError.TheVariants.{NoMemory, WorkFull}
use Rattle.ick_step.specs.Seen.{Seen, present, later, IsFull}
use Rattle.ick_step.specs.declared.arrival.Target.{Target}
use Rattle.ick_step.specs.declared.arrival.Target.TheVariants.{Statement, Depth}

-- a statement is met next, or the NEXT stack has at most so many return addresses
abbrev pub has_come : Target → State → Bool
has_come (Statement n) s = s.place == n
has_come (Depth n) s = not (nat_lt n (length s.returns))

-- at least one step leads to the first state of the kind, unless the limit, a choice or the end of the run comes before
pub record StopsFirst (here : State → Bool) (s : Seen) (limit k : ℕ) : Type 0 where
  pub within : k ≤ limit
  pub before : (i : ℕ) → 0 < i → i < k → here (present (later i s)) ≡ false
  pub stops : (k ≡ limit)
      ⊎ ((¬ IsPlain s.program (present (later k s))) ⊎ ((0 < k) × (here (present (later k s)) ≡ true)))

-- steps were made, at most as many as the limit, and none of the states before the last one was of the kind
pub record Breaks (here : State → Bool) (s : Seen) (limit : ℕ) (t : Seen) : Type 0 where
  pub made : ℕ
  pub within : made ≤ limit
  pub before : (i : ℕ) → 0 < i → i < made → here (present (later i s)) ≡ false
  pub is : t ≡ later made s

-- memory ran out, or the count of work has no step left
abbrev pub IsBreak : Seen → RunsError → Type 0
IsBreak t e = (e ≡ NoMemory) ⊎ ((e ≡ WorkFull) × IsFull t 1)
