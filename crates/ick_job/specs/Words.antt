-- The rules by which a parse reads the arguments of the commands.
use Rattle.std.specs.Prelude.{Some, codes, pos}
use Rattle.clap.specs.Words.{Rule, Text, new_rule}
use Rattle.clap.specs.declared.builder.ArgAction.TheVariants.{SetTrue}
use Rattle.clap.specs.declared.builder.value_parser.ValueParser.TheVariants.{Signed, Unsigned}

-- FILE
abbrev pub file_rule : Rule
file_rule = record (new_rule (codes "file")) { value_names = 1 }

-- -b
abbrev pub bug_rule : Rule
bug_rule = record (new_rule (codes "bug")) { short = Some 98; action = Some SetTrue }

-- an option with one value
abbrev pub option_rule : Text → Rule
option_rule name = record (new_rule name) { long = Some name; value_names = 1 }

-- --choices and --from
abbrev pub choices_rule : Rule
choices_rule = option_rule (codes "choices")

abbrev pub from_rule : Rule
from_rule = option_rule (codes "from")

-- --seed, --limit and --count, whose values are numbers in these ranges
abbrev pub seed_rule : Rule
seed_rule = record (option_rule (codes "seed")) { parser = Some (Unsigned 0 18446744073709551615) }

abbrev pub limit_rule : Rule
limit_rule = record (option_rule (codes "limit")) { parser = Some (Signed (pos 0) (pos 4294967295)) }

abbrev pub count_rule : Rule
count_rule = record (option_rule (codes "count")) { parser = Some (Signed (pos 1) (pos 1000000)) }
