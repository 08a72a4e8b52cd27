use Rattle.std.proofs.Common.{◌≡◌, ◌+◌, drop}
use Rattle.ick_code.specs.meaning.Control.{place_of}
use Rattle.ick_syntax.specs.StatementTree.{statement_trees}
use Rattle.ick_session.proofs.labels.place_of.Given as goal

abbrev pub invariant-loop-at : goal.invariant-loop-at
invariant-loop-at l =
    l.at + place_of l.label (statement_trees (drop l.at l.statements)) ≡ place_of l.label (statement_trees l.statements)
