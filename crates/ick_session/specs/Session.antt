-- What contracts see of a session with its choices, and why a command is refused.
use Rattle.std.specs.Prelude.{◌≡◌, ◌⊎◌, ◌+◌, ◌-◌, ℕ, Bool, false, length}
use Rattle.std.specs.BTreeSet.{contains}
use Rattle.std.specs.Ordering.{nat_cmp}
use Rattle.ick_code.specs.meaning.State.{State}
use Rattle.ick_backtrack.specs.Machine.{Program}
use Rattle.ick_runs.specs.Chosen.{Chosen}
use Rattle.ick_step.specs.Seen.{Seen, IsFull}
use Rattle.ick_step.specs.Histories.{history}
use Rattle.ick_session.specs.Given.{given_by}
use Rattle.ick_session.specs.declared.breakpoints.Breakpoints.{Breakpoints}
use Rattle.ick_session.specs.declared.session.Session.{Session}
use Rattle.ick_explorer.specs.declared.errors.RunsError.{RunsError}
use Rattle.ick_explorer.specs.declared.errors.RunsError.TheVariants.{NoMemory, WorkFull}

abbrev pub seen : Session → Seen
seen s = history s.history

-- what no step changes: the program and the first state of the run, the choices that it is given, how many steps it may
-- make, and which statements have a breakpoint
pub record Settings : Type 0 where
  pub program : Program
  pub start : State
  pub given : Chosen
  pub limit : ℕ
  pub breakpoints : ℕ → Bool

abbrev pub has_breakpoint : Breakpoints → ℕ → Bool
has_breakpoint b n = contains nat_cmp b.statements n

abbrev pub no_breakpoint : ℕ → Bool
no_breakpoint n = false

abbrev pub settings : Session → Settings
settings s = record {
  program = (seen s).program;
  start = (seen s).start;
  given = given_by s.given;
  limit = s.limit;
  breakpoints = has_breakpoint s.breakpoints;
}

-- how many steps a command makes at most: further ones, or all again, and those behind a mark twice
abbrev pub most_work : (limit : ℕ) → Seen → ℕ
most_work limit s = limit - length s.answers + length s.answers + 2000

-- the count of work has no room for them, with 1,000 to spare
abbrev pub HasNoRoom : (limit : ℕ) → Seen → Type 0
HasNoRoom limit s = IsFull s (most_work limit s + 1000)

-- memory ran out, or the count of work is full
abbrev pub IsStepError : Seen → RunsError → Type 0
IsStepError s e = (e ≡ NoMemory) ⊎ ((e ≡ WorkFull) × IsFull s 1000)
