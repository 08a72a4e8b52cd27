use Rattle.std.proofs.Common.{◌≡◌, Bool, List, ◌++◌, length}
use Rattle.ick_explorer.specs.Paths.{AllOnes}
use Rattle.ick_explorer.specs.Choices.{KeepsText, seen_stretches}
use Rattle.ick_explorer.proofs.choices.Choices.turn.Given as goal

-- what was taken off so far is ones, and what is kept fits the rest
abbrev pub invariant-loop-done : goal.invariant-loop-done
invariant-loop-done l = record {
  size : length l.self-inside.digits ≡ 64;
  ones : (ones : List Bool) × AllOnes ones × (l.fn.self ≡ l.self-inside.list.items ++ ones);
  keeps : KeepsText l.self-inside.digits (seen_stretches l.self-inside.stretches.items) l.self-inside.grouped
      l.self-inside.list.items;
}

abbrev pub decreases-loop-done : goal.decreases-loop-done
decreases-loop-done l = length l.self-inside.list.items
