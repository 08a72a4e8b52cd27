-- Defines that a line of an exact listing whose runs are counted is a row of each summary from some limit on.
use Rattle.std.specs.Prelude.{◌≡◌, ℕ, ◌*◌, ◌≤◌, List, Some}
use Rattle.std.specs.List.{Contains}
use Rattle.ick_code.specs.meaning.State.{State}
use Rattle.ick_outcomes.specs.Programs.{Program}
use Rattle.ick_backtrack.specs.Asked.{at_limit}
use Rattle.ick_explorer.specs.Lines.{end_text}
use Rattle.ick_outcomes.specs.Summaries.{IsSummary, Row}
use Rattle.ick_outcomes.specs.Weights.{whole}
use Rattle.ick_chain.specs.ExactListings.{Line, AreLines}

-- a row of a summary has the outcome of a line, n runs, the weight of the line, which is in so many parts, and the
-- choices of the line as those of its first run
pub record IsSettled (parts : ℕ) (l : Line) (n : ℕ) (r : Row) : Type 0 where
  pub same_output : r.output ≡ l.row.output
  pub same_end : r.end ≡ l.row.end
  pub count : r.count ≡ n
  pub weight : parts * r.weight ≡ whole * l.row.weight
  pub first : r.first ≡ l.shown

-- each summary has such a row, from some limit on
pub record Settles (p : Program) (s : State) (parts : ℕ) (l : Line) (n : ℕ) : Type 0 where
  pub least : ℕ
  pub has : (limit : ℕ) (rows : List Row) → least ≤ limit → IsSummary p s limit rows →
      (r : Row) × Contains rows r × IsSettled parts l n r

-- a line has a number of runs, and isn't that of runs at a limit
pub record IsFinite (l : Line) : Type 0 where
  pub number : ℕ
  pub count : l.count ≡ Some number
  pub ended : l.row.end ≡ end_text at_limit → ⊥

-- so it is for each line of an exact listing with a number of runs
abbrev pub AreSettled : Program → State → Type 0
AreSettled p s = (parts never : ℕ) (lines : List Line) → AreLines p s parts never lines → (l : Line) →
    Contains lines l → (f : IsFinite l) → Settles p s parts l f.number

-- a line with a number of runs is that of a row
pub record IsOfLine (parts : ℕ) (lines : List Line) (r : Row) : Type 0 where
  pub line : Line
  pub there : Contains lines line
  pub finite : IsFinite line
  pub settled : IsSettled parts line finite.number r

-- each row of each summary is that of a line, from some limit on
pub record SettleAll (p : Program) (s : State) (parts : ℕ) (lines : List Line) : Type 0 where
  pub least : ℕ
  pub each : (limit : ℕ) (rows : List Row) → least ≤ limit → IsSummary p s limit rows → (r : Row) → Contains rows r →
      IsOfLine parts lines r

-- so it is if each line has a number of runs, and no run never ends
abbrev pub AreAllSettled : Program → State → Type 0
AreAllSettled p s = (parts : ℕ) (lines : List Line) → AreLines p s parts 0 lines →
    ((l : Line) → Contains lines l → IsFinite l) → SettleAll p s parts lines
