use Rattle.std.proofs.Common.{◌≡◌}
use Rattle.ick_stages.specs.Left.{sorted_first, sorts_of}
use Rattle.ick_stages.specs.Steps.{made_of}
use Rattle.ick_stages.proofs.left.Sorted.sort_all.Given as goal

abbrev pub invariant-loop-at : goal.invariant-loop-at
invariant-loop-at l = sorts_of l.self ≡ sorted_first l.draft.instructions.items (made_of l.makers).first l.kept l.at
