use Rattle.std.proofs.Common.{◌≡◌, ◌+◌, take}
use Rattle.std.specs.Prelude.{Ok}
use Rattle.ick_code.proofs.Sizes.{size_of, sizes_of}
use Rattle.ick_code.specs.meaning.Value.{values_of}
use Rattle.ick_machine.specs.StateView.{present_state}
use Rattle.ick_syntax.specs.Tree.{tree_of, trees_in}
use Rattle.ick_session.proofs.outcomes.+outcome.Given as goal

abbrev pub decreases-outcome_of : goal.decreases-outcome_of
decreases-outcome_of l = size_of (tree_of l.e.now)

abbrev pub decreases-element_outcome : goal.decreases-element_outcome
decreases-element_outcome l = 2 + sizes_of (trees_in l.e.now.subs.items)

abbrev pub decreases-outcomes_of : goal.decreases-outcomes_of
decreases-outcomes_of l = 1 + sizes_of (trees_in l.list.now.items)

abbrev pub invariant-outcomes_of-loop-e : goal.invariant-outcomes_of-loop-e
invariant-outcomes_of-loop-e l = Ok l.values.items ≡ values_of (trees_in (take l.e-index l.e-items)) (present_state l.present)
