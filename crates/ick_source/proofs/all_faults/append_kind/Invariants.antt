use Rattle.std.proofs.Common.{List}
use Rattle.ick_source.specs.AllFaults.{AreFaultsUpTo}
use Rattle.ick_source.specs.Surveys.{Surveys}
use Rattle.ick_syntax.specs.ProgramFaults.{rank}
use Rattle.ick_syntax.specs.StatementTree.{StatementTree}
use Rattle.ick_source.proofs.all_faults.append_kind.Given as goal

abbrev pub invariant-loop-one : goal.invariant-loop-one
invariant-loop-one l =
    (trees : List StatementTree) → Surveys l.survey trees →
    AreFaultsUpTo trees (rank l.kind) 0 l.fn.faults.items →
    AreFaultsUpTo trees (rank l.kind) l.one-index l.faults.items
