-- Defines that the runs that are shown for rows with counts are the first in the order of listings.
use Rattle.std.specs.Prelude.{◌≡◌, ℕ, Bool, List, slice_get, Option, Some}
use Rattle.ick_code.specs.meaning.State.{State}
use Rattle.ick_outcomes.specs.Programs.{Program}
use Rattle.ick_numbers.specs.declared.natural.Natural.{Natural}
use Rattle.ick_chain.specs.Counts.{counts_of}
use Rattle.ick_chain.specs.FirstRuns.{IsSoonest}
use Rattle.ick_chain.specs.Lasts.{AreLasts}
use Rattle.ick_chain.specs.Ranks.{AreNumbered}
use Rattle.ick_chain.specs.Rows.{Row, AreDistinct, rows_of}
use Rattle.ick_chain.specs.declared.chain.Node.{Node}
use Rattle.ick_chain.specs.declared.firsts.Numbered.{Numbered}

-- for each row that has a count, no run with its outcome comes before the choices that are shown
abbrev pub AreSoonest : Program → State → List Row → List (Option ℕ) → List (List Bool) → Type 0
AreSoonest p s rows counts shown = (i n : ℕ) (r : Row) (c : List Bool) → slice_get rows i ≡ Some r →
    slice_get counts i ≡ Some (Some n) → slice_get shown i ≡ Some c → IsSoonest p s r.output r.end c

-- no row has a count
abbrev pub HasNoCount : List (Option Natural) → Type 0
HasNoCount counts = (i n : ℕ) → slice_get (counts_of counts) i ≡ Some (Some n) → ⊥

-- the numbers are those of nodes, and each row has the least number of the ended nodes with its outcome
pub record IsNumberedBy (p : Program) (ss : List State) (nodes : List Node) (numbered : Numbered) : Type 0 where
  pub lasts : AreLasts nodes numbered.lasts.items
  pub distinct : AreDistinct (rows_of numbered.rows.items)
  pub ranked : AreNumbered p ss nodes numbered.lasts.items numbered.rows.items
