-- What a parse reads of a program that is described.
use Rattle.std.specs.Prelude.{List, [], ◌∷◌, Some, true}
use Rattle.clap.specs.Words.{App, Rule, Text, new_app, new_rule, with_rule, with_subcommand}
use Rattle.clap.specs.Simple.{on_top}
use Rattle.clap.specs.declared.builder.ArgAction.TheVariants.{SetTrue}
use Rattle.ick_job.specs.Words.{option_rule}
use Rattle.ick_job.specs.declared.words.argument.Argument.{Argument}
use Rattle.ick_job.specs.declared.words.argument.Form.{Form}
use Rattle.ick_job.specs.declared.words.argument.Form.TheVariants.{Place, Letter, Flag, Text as TextForm, Number}
use Rattle.ick_job.specs.declared.words.description.Description.{Description}

-- the rule by which an argument is read
abbrev pub form_rule : Text → Form → Rule
form_rule name (Place value) = record (new_rule name) { value_names = 1 }
form_rule name (Letter letter) = record (new_rule name) { short = Some letter; action = Some SetTrue }
form_rule name Flag = record (new_rule name) { long = Some name; action = Some SetTrue }
form_rule name (TextForm value) = option_rule name
form_rule name (Number parser) = record (option_rule name) { parser = Some parser }

abbrev pub argument_rule : Argument → Rule
argument_rule a = form_rule a.name.now a.form

-- a command with further arguments
abbrev pub with_arguments : App → List Argument → App
with_arguments a [] = a
with_arguments a (x ∷ xs) = with_arguments (with_rule a (argument_rule x)) xs

-- the command of a description
abbrev pub described : Description → App
described d = with_arguments (new_app d.name.now) d.arguments.now

-- a program with further commands
abbrev pub with_commands : App → List Description → App
with_commands a [] = a
with_commands a (d ∷ ds) = with_commands (with_subcommand a (described d).top) ds

-- a program with its commands, whose arguments come without the program's own name
abbrev pub program_app : Description → List Description → App
program_app d ds = with_commands (on_top (λ s. record s { no_binary_name = true }) (described d)) ds
