-- The faults of a statement: its numbers out of range.
use Rattle.std.specs.Prelude.{ℕ, Option, Some, None}
use Rattle.ick_syntax.specs.declared.faults.Faults.{Faults}
use Rattle.ick_syntax.specs.Clamped.{no_faults, both_faults, label_faults}
use Rattle.ick_syntax.specs.BodyTree.{BodyTree, faults_of_body}
use Rattle.ick_syntax.specs.StatementTree.{StatementTree}

-- numbers within a body count if the body is recognised
abbrev pub faults_of_recognised : Option BodyTree → Faults
faults_of_recognised None = no_faults
faults_of_recognised (Some b) = faults_of_body b

abbrev pub faults_of_label : Option ℕ → Faults
faults_of_label None = no_faults
faults_of_label (Some n) = label_faults n

abbrev pub faults_of_statement : StatementTree → Faults
faults_of_statement t = both_faults (faults_of_label t.label) (faults_of_recognised t.body)
