-- Defines the runs of a program, and the choices that name them.
use Prim.Native.Nat.{zero, suc}
use Rattle.std.specs.Prelude.{◌≡◌, ℕ, Bool, false, List, [], ◌∷◌}
use Rattle.ick_code.specs.meaning.State.{State}
use Rattle.ick_code.specs.meaning.Move.{Asking, plain, choice, ended, ask, advance}
use Rattle.ick_backtrack.specs.Machine.{Program}
use Rattle.ick_backtrack.specs.Asked.{Finish, finished, at_limit}

-- how a run stops: it ends, or it wants a choice that is not given
pub data Stop : Type 0 where
  ends : Finish → Stop
  wants : Stop

-- the result of a run: its last state, which holds the run's output and the input left; its stop; its steps;
-- and the choices left over
pub record Execution : Type 0 where
  pub last : State
  pub stop : Stop
  pub steps : ℕ
  pub unused : List Bool

-- a run that makes no step
abbrev pub stays : State → Stop → List Bool → Execution
stays s stop c = record { last = s; stop = stop; steps = 0; unused = c }

-- a run after one more first step
abbrev pub stepped : Execution → Execution
stepped r = record r { steps = suc r.steps }

-- a run that may make no step: an end comes before the limit
abbrev pub run_at_limit : Asking → State → List Bool → Execution
run_at_limit (ended ending) s c = stays s (ends (finished ending)) c
run_at_limit plain s c = stays s (ends at_limit) c
run_at_limit (choice chance) s c = stays s (ends at_limit) c

-- a run that may make a step; `rest` is the run after it, by its choice and the choices left
abbrev pub run_on : Asking → State → List Bool → (Bool → List Bool → Execution) → Execution
run_on (ended ending) s c rest = stays s (ends (finished ending)) c
run_on plain s c rest = stepped (rest false c)
run_on (choice chance) s [] rest = stays s wants []
run_on (choice chance) s (b ∷ c) rest = stepped (rest b c)

-- the run from s with these choices, under a limit on steps
unfoldable pub run : Program → State → ℕ → List Bool → Execution
run p s zero c = run_at_limit (ask p s) s c
run p s (suc limit) c = run_on (ask p s) s c (λ b rest. run p (advance p s b) limit rest)

-- the run ended
abbrev pub IsEnd : Stop → Type 0
IsEnd (ends _) = Unit {0}
IsEnd wants = ⊥

-- c is whole: its run ends, and no choice is left over
pub record IsWhole (p : Program) (s : State) (limit : ℕ) (c : List Bool) : Type 0 where
  pub at_end : IsEnd (run p s limit c).stop
  pub all_used : (run p s limit c).unused ≡ []
