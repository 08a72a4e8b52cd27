-- What a run may print.
use Rattle.std.specs.Prelude.{ℕ, ◌≤◌, List, Bool, Option}
use Rattle.ick_code.specs.{meaning.State.State, declared.code.Code.Code}
use Rattle.ick_runtime.specs.{Inputs.Input, Run.Stopped, Run.GoesOn}

-- a reader lets all output leave that the run holds in a state from which it goes on, after so many steps at most
abbrev pub MayPrint : {R H : Type 0} → (Has : R → Input → Type 0) → (held : R → H) → (Prints : H → List ℕ → Type 0) →
    R → (limit : ℕ) → Code → (out : Input → ℕ → Stopped) → Type 0
MayPrint Has held Prints reader limit code out =
    (before : Input) → Has reader before → (made : ℕ) → made ≤ limit → (answer : Option Bool) (s : State) →
    GoesOn code (out before) made answer s → Prints (held reader) s.output
