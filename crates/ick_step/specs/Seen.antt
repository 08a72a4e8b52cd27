-- What contracts see of a session, and where its marks are.
use Rattle.std.specs.Prelude.{◌≡◌, ℕ, zero, suc, ◌+◌, ◌*◌, ◌≤◌, ◌^◌, Bool, List, [], ◌∷◌, ◌++◌}
use Rattle.std.specs.Prelude.{length, take, replicate, Option, None}
use Rattle.ick_code.specs.meaning.State.{State}
use Rattle.ick_backtrack.specs.Machine.{Program, Machine}
use Rattle.ick_step.specs.History.{after, IsHistory}

-- a session: its program, the state that it began in, the answers of its steps, and the count of work
pub record Seen : Type 0 where
  pub program : Program
  pub start : State
  pub answers : List (Option Bool)
  pub work : ℕ

-- the state that a session is in
abbrev pub present : Seen → State
present s = after s.program s.start s.answers

-- the session after so many steps at which nothing was asked
abbrev pub later : ℕ → Seen → Seen
later k s = record s { answers = s.answers ++ replicate k None; work = s.work + k }

-- the session after one more step, with its answer
abbrev pub with_answer : Option Bool → Seen → Seen
with_answer a s = record s { answers = s.answers ++ a ∷ []; work = s.work + 1 }

-- the count of work has less than this number left
abbrev pub IsFull : Seen → ℕ → Type 0
IsFull s n = 2 ^ 64 ≤ s.work + n

-- the oldest mark is the state that the session began in
abbrev pub start_from : List State → State → State
start_from [] s = s
start_from (oldest ∷ marks) s = oldest

abbrev pub start_of : Machine → State
start_of m = start_from m.marks m.state

abbrev pub seen_at : Machine → List (Option Bool) → Seen
seen_at m answers = record { program = m.program; start = start_of m; answers = answers; work = m.work }

-- the states before the first step, before step 1,001, and so on: so many of them
abbrev pub marked : Program → State → List (Option Bool) → ℕ → List State
marked p s answers zero = []
marked p s answers (suc k) = marked p s answers k ++ after p s (take (1000 * k) answers) ∷ []

-- the machine has made the steps with these answers, and has a mark before each thousandth of them
pub record IsKept (m : Machine) (answers : List (Option Bool)) : Type 0 where
  pub state : m.state ≡ after m.program (start_of m) answers
  pub history : IsHistory m.program (start_of m) answers
  pub marks : m.marks ≡ marked m.program (start_of m) answers (length m.marks)
  pub enough : length answers ≤ 1000 * length m.marks
  pub few : 1000 * length m.marks ≤ length answers + 1000
