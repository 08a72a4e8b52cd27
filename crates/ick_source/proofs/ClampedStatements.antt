-- A statement with no number out of range stays as it is.
use Rattle.std.proofs.Common.{◌≡◌, ℕ, Option, Some, None, option_map, refl, sym, ap, ◌∙◌, nat_eq, nat_lt}
use Rattle.std.proofs.lemmas.Bool.{or_parts}
use Rattle.ick_syntax.specs.declared.faults.Faults.{Faults}
use Rattle.ick_syntax.specs.declared.statements.Statement.{Statement}
use Rattle.ick_syntax.specs.BodyTree.{BodyTree, clamped_body}
use Rattle.ick_syntax.specs.Clamped.{greatest, clamped, no_faults}
use Rattle.ick_syntax.specs.StatementFaults.{faults_of_label, faults_of_recognised, faults_of_statement}
use Rattle.ick_syntax.specs.StatementTree.{StatementTree, statement_tree_of}
use Rattle.ick_source.specs.StatementAnswers.{clamped_statement, ReadsStatement}
use Rattle.ick_source.proofs.BodyByteReadings.{body_clamped, label_clamped}
use Rattle.ick_source.proofs.ClampedWhole.{left_fine, right_fine}
use Rattle.ick_source.proofs.StatementLemmas.{same_tree}

label_stays : (label : Option ℕ) → faults_of_label label ≡ no_faults → option_map clamped label ≡ label
label_stays None e = refl
label_stays (Some n) e = ap Some (label_clamped n e)

body_stays : (body : Option BodyTree) → faults_of_recognised body ≡ no_faults →
    option_map clamped_body body ≡ body
body_stays None e = refl
body_stays (Some b) e = ap Some (body_clamped b e)

pub statement_stays : (t : StatementTree) → faults_of_statement t ≡ no_faults → clamped_statement t ≡ t
statement_stays t e =
    same_tree _ _ (label_stays t.label (left_fine _ _ e)) refl refl refl (body_stays t.body (right_fine _ _ e)) refl

pub read_whole_statement : {x : Statement} {found : Faults} {t : StatementTree} → ReadsStatement x found t →
    found ≡ no_faults → statement_tree_of x ≡ t
read_whole_statement {t = t} r none = r.clamped ∙ statement_stays t (sym r.faults ∙ none)
