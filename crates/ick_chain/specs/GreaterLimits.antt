-- Defines that a summary without runs at the limit is the summary under each greater limit.
use Rattle.std.specs.Prelude.{◌≡◌, ℕ, ◌≤◌, List}
use Rattle.std.specs.List.{Contains}
use Rattle.ick_code.specs.meaning.State.{State}
use Rattle.ick_outcomes.specs.Programs.{Program}
use Rattle.ick_backtrack.specs.Asked.{at_limit}
use Rattle.ick_explorer.specs.Lines.{end_text}
use Rattle.ick_outcomes.specs.Summaries.{Row, IsSummary}

-- no row is that of runs which are cut short by the limit
abbrev pub HasNoLimit : List Row → Type 0
HasNoLimit rows = (r : Row) → Contains rows r → r.end ≡ end_text at_limit → ⊥

-- a summary under a limit that has no row of runs at the limit is the summary under each greater limit
abbrev pub AreLasting : Program → State → Type 0
AreLasting p s = (l m : ℕ) (rows : List Row) → l ≤ m → IsSummary p s l rows → HasNoLimit rows → IsSummary p s m rows
