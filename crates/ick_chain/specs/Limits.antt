-- Defines what the runs of a program do under a limit on steps: the weight of those that have ended, the weight of
-- those that still go on, and their steps.
use Prim.Native.Nat.{zero, suc}
use Rattle.std.specs.Prelude.{ℕ, ◌+◌, ◌*◌, ◌^◌, Bool, true, false}
use Rattle.ick_code.specs.meaning.State.{State}
use Rattle.ick_code.specs.meaning.Move.{Asking, plain, choice, ended}
use Rattle.ick_outcomes.specs.Programs.{ask, advance, Program}
use Rattle.ick_outcomes.specs.Weights.{part}

-- a test of the last states of runs
abbrev pub Test : Type 0
Test = State → Bool

-- the test that each state passes
abbrev pub any : Test
any = λ s. true

abbrev pub all_if : Bool → ℕ → ℕ
all_if true n = n
all_if false n = 0

abbrev pub ended_now : Test → Asking → State → ℕ
ended_now q (ended e) s = all_if (q s) 1
ended_now q plain s = 0
ended_now q (choice chance) s = 0

abbrev pub ended_on : Test → Asking → State → ℕ → (Bool → ℕ) → ℕ
ended_on q (ended e) s l rest = all_if (q s) (100 ^ suc l)
ended_on q plain s l rest = 100 * rest false
ended_on q (choice chance) s l rest = part chance false * rest false + part chance true * rest true

-- the weight, in parts of 100 ^ limit, of the runs from s that end within so many steps and whose last states pass
unfoldable pub ended_weight : Program → Test → State → ℕ → ℕ
ended_weight p q s zero = ended_now q (ask p s) s
ended_weight p q s (suc l) = ended_on q (ask p s) s l (λ b. ended_weight p q (advance p s b) l)

abbrev pub going_now : Asking → ℕ
going_now (ended e) = 0
going_now plain = 1
going_now (choice chance) = 1

abbrev pub going_on : Asking → (Bool → ℕ) → ℕ
going_on (ended e) rest = 0
going_on plain rest = 100 * rest false
going_on (choice chance) rest = part chance false * rest false + part chance true * rest true

-- the weight, in parts of 100 ^ limit, of the runs from s that haven't ended after so many steps
unfoldable pub going_weight : Program → State → ℕ → ℕ
going_weight p s zero = going_now (ask p s)
going_weight p s (suc l) = going_on (ask p s) (λ b. going_weight p (advance p s b) l)

abbrev pub steps_on : Asking → ℕ → (Bool → ℕ) → ℕ
steps_on (ended e) l rest = 0
steps_on plain l rest = 100 ^ suc l + 100 * rest false
steps_on (choice chance) l rest = 100 ^ suc l + (part chance false * rest false + part chance true * rest true)

-- the mean number of steps, in parts of 100 ^ limit, that the runs from s make under a limit
unfoldable pub mean_steps : Program → State → ℕ → ℕ
mean_steps p s zero = 0
mean_steps p s (suc l) = steps_on (ask p s) l (λ b. mean_steps p (advance p s b) l)
