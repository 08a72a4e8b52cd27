-- The commands as a parse reads them.
use Rattle.std.specs.Prelude.{List, [], ◌∷◌, codes, true, false}
use Rattle.clap.specs.Words.{App, Rule, Text}
use Rattle.clap.specs.Simple.{new_shape}
use Rattle.ick_job.specs.Words.{bug_rule, choices_rule, count_rule, file_rule, from_rule, limit_rule, seed_rule}

-- a command with these arguments
abbrev pub command_app : Text → List Rule → App
command_app name rules = record { top = record (new_shape name) { rules = rules }; subs = [] }

abbrev pub check_app : App
check_app = command_app (codes "check") (file_rule ∷ [])

abbrev pub list_app : App
list_app = command_app (codes "list") (file_rule ∷ [])

abbrev pub run_app : App
run_app = command_app (codes "run") (bug_rule ∷ choices_rule ∷ seed_rule ∷ limit_rule ∷ file_rule ∷ [])

abbrev pub runs_app : App
runs_app = command_app (codes "runs") (bug_rule ∷ from_rule ∷ count_rule ∷ limit_rule ∷ file_rule ∷ [])

-- ick
abbrev pub ick_app : App
ick_app = record {
  top = record (new_shape (codes "ick")) { no_binary_name = true; is_leaf = false };
  subs = check_app.top ∷ list_app.top ∷ run_app.top ∷ runs_app.top ∷ [];
}
