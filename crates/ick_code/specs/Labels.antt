-- Which statement a label stands before.
use Rattle.std.specs.Prelude.{ℕ, suc, Bool, true, false, List, [], ◌∷◌, Option, Some, None, unwrap_or}
use Rattle.std.specs.Prelude.{option_map, if◌then◌else◌}
use Rattle.std.specs.BTreeMap.{get}
use Rattle.std.specs.Ordering.{nat_cmp}
use Rattle.ick_syntax.specs.StatementTree.{StatementTree}
use Rattle.ick_code.specs.declared.labels.Labels.{Labels}
use Rattle.ick_code.specs.meaning.Control.{is_label}

-- the number of the first statement with a label, if there is one
abbrev pub first_place : ℕ → List StatementTree → Option ℕ
first_place label [] = None
first_place label (statement ∷ rest) =
    if is_label label statement.label then Some 1 else option_map suc (first_place label rest)

-- a place that is known stays; else it is the new one, if the statement there has the label
abbrev pub with_place : Option ℕ → Bool → ℕ → Option ℕ
with_place (Some place) is_here new = Some place
with_place None true new = Some new
with_place None false new = None

-- the place that a map of labels gives, or the one past the last statement
abbrev pub place_in : Labels → ℕ → ℕ
place_in labels label = unwrap_or (get nat_cmp labels.places label) labels.past
