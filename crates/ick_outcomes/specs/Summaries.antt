-- Defines the outcomes of a program, and its summary.
use Rattle.std.specs.Prelude.{◌≡◌, ℕ, ◌+◌, ◌*◌, ◌^◌, ◌<◌, suc, Bool, List, [], ◌∷◌, length, map}
use Rattle.std.specs.List.{Contains}
use Rattle.ick_code.specs.meaning.State.{State}
use Rattle.ick_outcomes.specs.Programs.{Program, run, IsWhole, IsListing}
use Rattle.ick_explorer.specs.Order.{IsIncreasing}
use Rattle.ick_outcomes.specs.Tallies.{stop_text}
use Rattle.ick_outcomes.specs.Weights.{shares, whole}

-- an outcome: what a run wrote, and the text of its end; the number of runs that have it, their weight in parts of
-- the whole, and the choices of the first of them
pub record Row : Type 0 where
  pub output : List ℕ
  pub end : List ℕ
  pub count : ℕ
  pub weight : ℕ
  pub first : List Bool

-- c is whole, and its run has this outcome
pub record HasOutcome (p : Program) (s : State) (limit : ℕ) (r : Row) (c : List Bool) : Type 0 where
  pub whole : IsWhole p s limit c
  pub same_output : (run p s limit c).last.output ≡ r.output
  pub same_end : stop_text (run p s limit c).stop ≡ r.end

-- cs are the choices of all runs with this outcome, each once, in order
pub record AreRunsOf (p : Program) (s : State) (limit : ℕ) (r : Row) (cs : List (List Bool)) : Type 0 where
  pub increasing : IsIncreasing cs
  pub sound : (c : List Bool) → Contains cs c → HasOutcome p s limit r c
  pub complete : (c : List Bool) → HasOutcome p s limit r c → Contains cs c

-- at least one run has the outcome; the row has the first of them, their number, and the sum of their weights
pub record IsRow (p : Program) (s : State) (limit : ℕ) (r : Row) : Type 0 where
  pub others : List (List Bool)
  pub runs : AreRunsOf p s limit r (r.first ∷ others)
  pub counted : r.count ≡ suc (length others)
  pub weighed : r.weight * 100 ^ limit ≡ whole * shares p s limit (r.first ∷ others)

-- each row is that of an outcome, each run from s has the outcome of a row, and the rows are in the order of their
-- first runs
pub record IsSummary (p : Program) (s : State) (limit : ℕ) (rows : List Row) : Type 0 where
  pub sound : (r : Row) → Contains rows r → IsRow p s limit r
  pub complete : (c : List Bool) → IsWhole p s limit c → (r : Row) × Contains rows r × HasOutcome p s limit r c
  pub increasing : IsIncreasing (map (λ r. r.first) rows)

-- the sum of the weights of rows
abbrev pub weight_of : List Row → ℕ
weight_of [] = 0
weight_of (r ∷ rs) = r.weight + weight_of rs

-- the sum of the counts of rows
abbrev pub count_of : List Row → ℕ
count_of [] = 0
count_of (r ∷ rs) = r.count + count_of rs

-- n is the length of the listing of all runs
pub record CountsAll (p : Program) (s : State) (limit n : ℕ) : Type 0 where
  pub listing : List (List Bool)
  pub is_listing : IsListing p s limit listing
  pub counted : n ≡ length listing

-- the program has more runs than so many
pub record HasMoreRuns (p : Program) (s : State) (limit most : ℕ) : Type 0 where
  pub runs : ℕ
  pub counted : CountsAll p s limit runs
  pub more : most < runs
