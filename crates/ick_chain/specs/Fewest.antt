-- Defines that the runs that are shown have the fewest choices.
use Rattle.std.specs.Prelude.{◌≡◌, ℕ, Bool, List, length, slice_get, Some}
use Rattle.ick_code.specs.meaning.State.{State}
use Rattle.ick_outcomes.specs.Programs.{Program}
use Rattle.ick_chain.specs.FirstRuns.{IsFewest}
use Rattle.ick_chain.specs.Ranks.{IsEnd}
use Rattle.ick_chain.specs.Rows.{Row}
use Rattle.ick_chain.specs.Shown.{IsShown}
use Rattle.ick_chain.specs.Words.{word_of}
use Rattle.ick_chain.specs.declared.row.Row.{Row as KeptRow}
use Rattle.ick_chain.specs.declared.words.Labels.{Labels}

-- the choices have the number that is the rank of a row, and their run has its outcome
pub record IsLabelled (p : Program) (s : State) (labels : Labels) (row : KeptRow) (c : List Bool) : Type 0 where
  pub shown : IsShown p s row.output.items row.end.items c
  pub ended : IsEnd row.end.items
  pub word : word_of labels.words.items row.rank.breadth ≡ c

-- for each row, the first of those of its runs that have the fewest choices
pub record AreFewest (p : Program) (s : State) (rows : List Row) (shown : List (List Bool)) : Type 0 where
  pub long : length shown ≡ length rows
  pub each : (i : ℕ) (r : Row) (c : List Bool) → slice_get rows i ≡ Some r → slice_get shown i ≡ Some c →
      IsFewest p s r.output r.end c
