use Rattle.std.proofs.Common.{List}
use Rattle.ick_source.specs.Seen.{SeesAll}
use Rattle.ick_source.specs.Surveys.{AreFirstLabels}
use Rattle.ick_source.proofs.SurveyLemmas.{UpTo}
use Rattle.ick_syntax.specs.StatementTree.{StatementTree}
use Rattle.ick_source.proofs.survey.first_labels.Given as goal

abbrev pub invariant-loop-one : goal.invariant-loop-one
invariant-loop-one l =
    (trees : List StatementTree) → SeesAll l.seen trees → AreFirstLabels (UpTo l.one-index) trees l.labels
