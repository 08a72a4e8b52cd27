-- The command line as a parse reads it.
use Rattle.std.specs.Prelude.{[], ◌∷◌, Some, codes, pos, true}
use Rattle.clap.specs.Words.{App, Rule, Text, new_rule}
use Rattle.clap.specs.Simple.{new_shape}
use Rattle.clap.specs.declared.builder.ArgAction.TheVariants.{SetTrue}
use Rattle.clap.specs.declared.builder.value_parser.ValueParser.TheVariants.{Signed}
use Rattle.ick_job.specs.Words.{bug_rule, file_rule, option_rule}

-- --tree, --operations, --parts, --rules, --instructions and --traces
abbrev pub flag_rule : Text → Rule
flag_rule name = record (new_rule name) { long = Some name; action = Some SetTrue }

-- --statement, whose value is a number in this range
abbrev pub statement_rule : Rule
statement_rule = record (option_rule (codes "statement")) { parser = Some (Signed (pos 1) (pos 4294967295)) }

-- ick-stages
abbrev pub stages_app : App
stages_app = record {
  top = record (new_shape (codes "ick-stages")) {
    no_binary_name = true;
    rules =
        bug_rule ∷ flag_rule (codes "tree") ∷ flag_rule (codes "operations") ∷ flag_rule (codes "parts")
        ∷ flag_rule (codes "rules") ∷ flag_rule (codes "instructions") ∷ flag_rule (codes "traces")
        ∷ statement_rule ∷ file_rule ∷ [];
  };
  subs = [];
}
