-- Defines the rows of an exact answer: each outcome once, with the weight of its runs in parts.
use Rattle.std.specs.Prelude.{◌≡◌, ℕ, ◌+◌, true, List, [], ◌∷◌, map, Option, Some, None}
use Rattle.std.specs.List.{Contains}
use Rattle.ick_numbers.specs.Values.{natural}
use Rattle.ick_outcomes.specs.Tallies.{Test as OutcomeTest}
use Rattle.ick_chain.specs.Limits.{Test, all_if}
use Rattle.ick_chain.specs.Tallied.{of_states}
use Rattle.ick_chain.specs.declared.row.Row.{Row as KeptRow}

-- an outcome: what runs write and the text of their end; and the weight of these runs, in parts
pub record Row : Type 0 where
  pub output : List ℕ
  pub end : List ℕ
  pub weight : ℕ

-- two rows have different outcomes
abbrev pub AreApart : Row → Row → Type 0
AreApart r x = r.output ≡ x.output → r.end ≡ x.end → ⊥

-- no two rows have the same outcome
abbrev pub AreDistinct : List Row → Type 0
AreDistinct [] = Unit {0}
AreDistinct (r ∷ rs) = ((x : Row) → Contains rs x → AreApart r x) × AreDistinct rs

-- two rows have the same outcome
pub record SameRow (x r : Row) : Type 0 where
  pub same_output : x.output ≡ r.output
  pub same_end : x.end ≡ r.end

-- the weight of the rows that pass a test, together
abbrev pub weight_of : OutcomeTest → List Row → ℕ
weight_of q [] = 0
weight_of q (r ∷ rs) = all_if (q r.output r.end) r.weight + weight_of q rs

-- the test that all outcomes pass
abbrev pub any_outcome : OutcomeTest
any_outcome = λ output end. true

-- the runs of a row were added to rows
pub record Adds (old : List Row) (r : Row) (new : List Row) : Type 0 where
  pub added : (q : OutcomeTest) → weight_of q new ≡ all_if (q r.output r.end) r.weight + weight_of q old
  pub apart : AreDistinct old → AreDistinct new

-- the row that is kept
abbrev pub row_of : KeptRow → Row
row_of row = record { output = row.output.items; end = row.end.items; weight = natural row.weight }

abbrev pub rows_of : List KeptRow → List Row
rows_of rows = map row_of rows

-- the weight of the row that was found, if it passes a test
abbrev pub weight_if : OutcomeTest → Option KeptRow → ℕ
weight_if q None = 0
weight_if q (Some row) = all_if (q row.output.items row.end.items) (natural row.weight)

-- runs were added to rows that weigh so much for each test of outcomes
pub record RowsGrow (old : List Row) (more : OutcomeTest → ℕ) (new : List Row) : Type 0 where
  pub added : (q : OutcomeTest) → weight_of q new ≡ more q + weight_of q old
  pub apart : AreDistinct old → AreDistinct new

-- the test is passed by one outcome alone
pub record IsTestOf (output end : List ℕ) (q : OutcomeTest) : Type 0 where
  pub passed : q output end ≡ true
  pub alone : (o e : List ℕ) → q o e ≡ true → (o ≡ output) × (e ≡ end)

-- `weight` has so many parts for the runs whose last states pass a test. The rows have different outcomes. Each has the
-- weight of the runs with its outcome, and the rows that pass a test have the weight of the runs that pass it
pub record AreRows (weight : Test → ℕ) (rows : List Row) : Type 0 where
  pub distinct : AreDistinct rows
  pub each : (r : Row) → Contains rows r → (q : OutcomeTest) → IsTestOf r.output r.end q →
      weight (of_states q) ≡ r.weight
  pub whole : (q : OutcomeTest) → weight (of_states q) ≡ weight_of q rows
