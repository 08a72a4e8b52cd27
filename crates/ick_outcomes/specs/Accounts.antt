-- Defines which runs nodes and rows represent, and how a step changes nodes and rows.
use Rattle.std.specs.Prelude.{◌≡◌, ◌⊎◌, ℕ, ◌*◌, ◌^◌, ◌-◌, ◌≤◌, Bool, true, false, List, [], ◌∷◌, ◌++◌, Some}
use Rattle.std.specs.List.{Contains}
use Rattle.ick_code.specs.meaning.State.{State}
use Rattle.ick_outcomes.specs.Programs.{advance, Program}
use Rattle.ick_explorer.specs.Lines.{end_text}
use Rattle.ick_explorer.specs.Order.{IsBelow}
use Rattle.ick_backtrack.specs.Asked.{Finish}
use Rattle.ick_outcomes.specs.Tallies.{Test, Tally, lesser, none, join, after, tally}
use Rattle.ick_outcomes.specs.Weights.{amount, part}
use Rattle.ick_outcomes.specs.Summaries.{Row}

-- what contracts see of a machine: its program and its state
pub record Configuration : Type 0 where
  pub program : Program
  pub state : State

-- a node: a configuration, the steps left there, how many runs lead there, their weight in units of 100 ^ left parts,
-- and the choices of the first of them
pub record Pending : Type 0 where
  pub at : Configuration
  pub left : ℕ
  pub count : ℕ
  pub weight : ℕ
  pub choices : List Bool

-- the tally of the runs that go on from a node
abbrev pub ahead : Test → Pending → Tally
ahead q n = after n.count n.weight n.choices (tally n.at.program n.at.state n.left q)

-- the tallies of these elements together
abbrev pub joined : {A : Type 0} → (A → Tally) → List A → Tally
joined f [] = none
joined f (x ∷ xs) = join (f x) (joined f xs)

-- the tally of the runs that go on from these nodes
abbrev pub all_ahead : Test → List Pending → Tally
all_ahead q ns = joined (ahead q) ns

-- the tally of these runs if they pass, and of no run if not
abbrev pub counted_if : Bool → ℕ → ℕ → List Bool → Tally
counted_if true count weight first = record { count = count; weight = weight; first = Some first }
counted_if false count weight first = none

-- the tally of the runs of a row
abbrev pub counted : Test → Row → Tally
counted q r = counted_if (q r.output r.end) r.count r.weight r.first

-- the tally of the runs of these rows
abbrev pub all_counted : Test → List Row → Tally
all_counted q rs = joined (counted q) rs

-- the test that all outcomes pass
abbrev pub any_outcome : Test
any_outcome = λ output end. true

-- two rows have different outcomes
abbrev pub AreApart : Row → Row → Type 0
AreApart r x = r.output ≡ x.output → r.end ≡ x.end → ⊥

-- no two rows have the same outcome
abbrev pub AreDistinct : List Row → Type 0
AreDistinct [] = Unit {0}
AreDistinct (r ∷ rs) = ((x : Row) → Contains rs x → AreApart r x) × AreDistinct rs

-- no row has its first run behind the first run of a later row
abbrev pub AreOrdered : List Row → Type 0
AreOrdered [] = Unit {0}
AreOrdered (r ∷ rs) = ((x : Row) → Contains rs x → lesser r.first x.first ≡ r.first) × AreOrdered rs

-- a node was added to nodes, or merged into one of them
abbrev pub Admits : List Pending → Pending → List Pending → Type 0
Admits old n new = (q : Test) → all_ahead q new ≡ join (ahead q n) (all_ahead q old)

-- the runs of a row were added to rows
pub record Counts (old : List Row) (r : Row) (new : List Row) : Type 0 where
  pub added : (q : Test) → all_counted q new ≡ join (counted q r) (all_counted q old)
  pub apart : AreDistinct old → AreDistinct new

-- two nodes have the same configuration and the same number of steps left, and their choices differ
pub record CanMerge (x n : Pending) : Type 0 where
  pub same_at : x.at ≡ n.at
  pub same_left : x.left ≡ n.left
  pub differ : IsBelow x.choices n.choices ⊎ IsBelow n.choices x.choices

-- the node after a choice of a statement with this chance
abbrev pub chosen : ℕ → Pending → Bool → Pending
chosen chance n b = record {
  at = record { program = n.at.program; state = advance n.at.program n.at.state b };
  left = n.left - 1;
  count = n.count;
  weight = part chance b * n.weight;
  choices = n.choices ++ b ∷ [];
}

-- two rows have the same outcome
pub record SameRow (x r : Row) : Type 0 where
  pub same_output : x.output ≡ r.output
  pub same_end : x.end ≡ r.end

-- the same runs go on from two nodes, and the second has no more steps left
pub record GoesOn (n m : Pending) : Type 0 where
  pub same_runs : (q : Test) → ahead q n ≡ ahead q m
  pub no_more : m.left ≤ n.left

-- the row of the runs that lead to a node, if they end there
abbrev pub ended_row : Pending → Finish → Row
ended_row n finish = record {
  output = n.at.state.output;
  end = end_text finish;
  count = n.count;
  weight = n.weight * 100 ^ n.left;
  first = n.choices;
}

-- the runs that lead to a node end there
pub record AreOver (n : Pending) (finish : Finish) : Type 0 where
  pub same_runs : (q : Test) → ahead q n ≡ counted q (ended_row n finish)

-- all runs from s are in rows with different outcomes
pub record AreCounted (p : Program) (s : State) (limit : ℕ) (rs : List Row) : Type 0 where
  pub counted_all : (q : Test) → after 1 (amount 1 0 limit) [] (tally p s limit q) ≡ all_counted q rs
  pub distinct : AreDistinct rs

-- the same rows, in order
pub record Sorts (old new : List Row) : Type 0 where
  pub same_counted : (q : Test) → all_counted q new ≡ all_counted q old
  pub distinct : AreDistinct old → AreDistinct new
  pub ordered : AreOrdered new
