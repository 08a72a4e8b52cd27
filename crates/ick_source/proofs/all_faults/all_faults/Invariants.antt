use Rattle.std.proofs.Common.{List}
use Rattle.ick_source.specs.AllFaults.{AreFaultsUpTo}
use Rattle.ick_source.specs.Surveys.{Surveys}
use Rattle.ick_syntax.specs.StatementTree.{StatementTree}
use Rattle.ick_source.proofs.all_faults.all_faults.Given as goal

abbrev pub invariant-loop-kind : goal.invariant-loop-kind
invariant-loop-kind l =
    (trees : List StatementTree) → Surveys l.survey trees → AreFaultsUpTo trees l.kind-index 0 l.faults.items
