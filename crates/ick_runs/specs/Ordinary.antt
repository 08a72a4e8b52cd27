-- Defines the answer of one run with given choices.
use Rattle.std.specs.Prelude.{◌≡◌, ℕ, ◌≤◌, Bool, List, length, take, drop, Option, Some, None}
use Rattle.ick_code.specs.meaning.State.{State}
use Rattle.ick_backtrack.specs.Machine.{Program}
use Rattle.ick_backtrack.specs.Asked.{Finish, finish_of}
use Rattle.ick_backtrack.specs.declared.asking.End.{End}
use Rattle.ick_explorer.specs.Runs.{Execution, ends, wants, run}
use Rattle.ick_runs.specs.declared.ordinary.Ran.{Ran}
use Rattle.ick_runs.specs.declared.ordinary.Ran.TheVariants.{Ended, Wants}

-- the run ended with this output and this end
abbrev pub HasEnded : List ℕ → Finish → ℕ → ℕ → Ran → Type 0
HasEnded output finish used steps (Ended o e u n) =
    (o.items ≡ output) × (finish_of e ≡ finish) × (u ≡ used) × (n ≡ steps)
HasEnded output finish used steps (Wants o n) = ⊥

-- the run wants a choice, and has this output
abbrev pub IsWanting : List ℕ → ℕ → Ran → Type 0
IsWanting output steps (Ended o e u n) = ⊥
IsWanting output steps (Wants o n) = (o.items ≡ output) × (n ≡ steps)

-- .. by this end, or because no choice was left
abbrev pub HasStopped : List ℕ → Option End → ℕ → ℕ → Ran → Type 0
HasStopped output (Some end) used steps r = HasEnded output (finish_of end) used steps r
HasStopped output None used steps r = IsWanting output steps r

-- the answer is the run x with the choices c: the choices after the first `used` are left over
abbrev pub IsRan : List Bool → Execution → Ran → Type 0
IsRan c x (Ended o e used n) =
    (o.items ≡ x.last.output) × (x.stop ≡ ends (finish_of e)) × (n ≡ x.steps)
    × (used ≤ length c) × (drop used c ≡ x.unused)
IsRan c x (Wants o n) = (o.items ≡ x.last.output) × (x.stop ≡ wants) × (n ≡ x.steps)

-- unused choices change nothing: each list with the same first `used` choices has the same answer
abbrev pub IgnoresUnused : Program → State → ℕ → List Bool → Ran → Type 0
IgnoresUnused p s l c (Ended o e used n) =
    (d : List Bool) → used ≤ length d → take used d ≡ take used c → IsRan d (run p s l d) (Ended o e used n)
IgnoresUnused p s l c (Wants o n) = Unit {0}

-- the run ended, and used all of these choices
abbrev pub UsesAll : List Bool → Ran → Type 0
UsesAll c (Ended o e used n) = used ≡ length c
UsesAll c (Wants o n) = ⊥
