-- The command line as a parse reads it.
use Rattle.std.specs.Prelude.{[], ◌∷◌, Some, codes, true}
use Rattle.clap.specs.Words.{App, Rule, new_rule}
use Rattle.clap.specs.Simple.{new_shape}
use Rattle.clap.specs.declared.builder.ArgAction.TheVariants.{SetTrue}
use Rattle.ick_job.specs.Words.{bug_rule, choices_rule, file_rule, limit_rule, option_rule, seed_rule}

-- --input
abbrev pub input_rule : Rule
input_rule = option_rule (codes "input")

-- --trace
abbrev pub trace_rule : Rule
trace_rule = record (new_rule (codes "trace")) { long = Some (codes "trace"); action = Some SetTrue }

-- ick-step
abbrev pub step_app : App
step_app = record {
  top = record (new_shape (codes "ick-step")) {
    no_binary_name = true;
    rules = bug_rule ∷ input_rule ∷ choices_rule ∷ seed_rule ∷ limit_rule ∷ trace_rule ∷ file_rule ∷ [];
  };
  subs = [];
}
