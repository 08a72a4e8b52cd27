-- The command line as a parse reads it.
use Rattle.std.specs.Prelude.{[], ◌∷◌, Some, codes, pos, true}
use Rattle.clap.specs.Words.{App, Rule, new_rule}
use Rattle.clap.specs.Simple.{new_shape}
use Rattle.clap.specs.declared.builder.ArgAction.TheVariants.{SetTrue}
use Rattle.clap.specs.declared.builder.value_parser.ValueParser.TheVariants.{Signed, Unsigned}
use Rattle.ick_job.specs.Words.{bug_rule, file_rule, limit_rule, option_rule}

-- --most, whose value is a number in this range
abbrev pub most_rule : Rule
most_rule = record (option_rule (codes "most")) { parser = Some (Signed (pos 1) (pos 4294967295)) }

-- --memory, whose value is a number in this range
abbrev pub memory_rule : Rule
memory_rule = record (option_rule (codes "memory")) { parser = Some (Unsigned 1 18446744073709551615) }

-- --exact, --total, --ends and --states
abbrev pub exact_rule : Rule
exact_rule = record (new_rule (codes "exact")) { long = Some (codes "exact"); action = Some SetTrue }

abbrev pub total_rule : Rule
total_rule = record (new_rule (codes "total")) { long = Some (codes "total"); action = Some SetTrue }

abbrev pub ends_rule : Rule
ends_rule = record (new_rule (codes "ends")) { long = Some (codes "ends"); action = Some SetTrue }

abbrev pub states_rule : Rule
states_rule = record (new_rule (codes "states")) { long = Some (codes "states"); action = Some SetTrue }

-- --asked
abbrev pub asked_rule : Rule
asked_rule = option_rule (codes "asked")

-- ick-outcomes
abbrev pub outcomes_app : App
outcomes_app = record {
  top = record (new_shape (codes "ick-outcomes")) {
    no_binary_name = true;
    rules =
        bug_rule ∷ limit_rule ∷ most_rule ∷ memory_rule ∷ exact_rule ∷ total_rule ∷ ends_rule ∷ states_rule ∷ asked_rule
        ∷ file_rule ∷ [];
  };
  subs = [];
}
