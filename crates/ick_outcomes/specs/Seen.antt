-- Defines what contracts see of numbers, outcomes and nodes.
use Rattle.std.specs.Prelude.{List, map}
use Rattle.ick_numbers.specs.Values.{natural}
use Rattle.ick_outcomes.specs.Packed.{choices_of}
use Rattle.ick_outcomes.specs.Accounts.{Configuration, Pending}
use Rattle.ick_outcomes.specs.Summaries.{Row}
use Rattle.ick_outcomes.specs.declared.pending.Node.{Node}
use Rattle.ick_outcomes.specs.Fractions.{top_of}
use Rattle.ick_outcomes.specs.Weights.{amount}
use Rattle.ick_outcomes.specs.declared.outcome.Outcome.{Outcome}

-- what a node represents, if `seen` is what contracts see of its state
abbrev pub pending_of : {S : Type 0} → (S → Configuration) → Node S → Pending
pending_of seen n = record {
  at = seen n.state;
  left = n.left;
  count = natural n.count;
  weight = amount (top_of n.weight) n.weight.places n.left;
  choices = choices_of n.choices;
}

-- the row that an outcome represents
abbrev pub row_of : Outcome → Row
row_of o = record {
  output = o.output.items;
  end = o.end.items;
  count = natural o.count;
  weight = amount (top_of o.weight) o.weight.places 0;
  first = o.first.items;
}

abbrev pub rows_of : List Outcome → List Row
rows_of os = map row_of os

abbrev pub nodes_of : {S : Type 0} → (S → Configuration) → List (Node S) → List Pending
nodes_of seen ns = map (pending_of seen) ns
