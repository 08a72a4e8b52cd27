-- What a builder makes of what a parse reads.
use Rattle.std.proofs.Common.{◌≡◌, ◌∙◌, ◌&&◌, ◌+◌, ◌<◌, ap, ap₂, false, true, subst, Bool, List, [], ◌||◌, ℕ, add-one}
use Rattle.std.proofs.Common.{drop, get_or, length, refl, Option, Some, None, option_map}
use Rattle.std.specs.Option.{option_map_or}
use Rattle.std.specs.Prelude.{find}
use Rattle.std.proofs.Math.Seq.{drop-cons}
use Rattle.clap.specs.Kinds.{Kinds}
use Rattle.clap.specs.Words.{AddsArg, AddsSubcommand, App, HasMatchesOf, Row, Rule, Text, app_of, fault_of, found_of}
use Rattle.clap.specs.Words.{is_simple_and_free, matches_of, rows_of, rule_of, subcommand_of}
use Rattle.clap.specs.Words.{Shape, built, subcommand_rows_of, with_rule, with_subcommand}
use Rattle.clap.specs.Simple.{entered, label_of, rows_at}
use Rattle.clap.specs.Walk.{answers_to}
use Rattle.clap.specs.declared.parser.matches.ArgMatches.{ArgMatches}
use Rattle.clap.specs.declared.builder.arg.Arg.{Arg}
use Rattle.clap.specs.declared.builder.command.Command.{Command}
use Rattle.ick_job.specs.Built.{Reads}
use Rattle.ick_job.specs.Descriptions.{argument_rule, described, with_arguments, with_commands}
use Rattle.ick_job.specs.Values.{AreGiven, AreValues}
use Rattle.ick_job.specs.declared.words.given.Values.{Values}
use Rattle.ick_job.specs.declared.words.argument.Argument.{Argument}
use Rattle.ick_job.specs.declared.words.description.Description.{Description}

simple : (a b : Bool) → (a && b) ≡ true → a ≡ true
simple true b e = refl
simple false b e = absurd (cc)

-- the rows that a parse finds are those of what the command reads arguments as
pub matched : (command : Command) (a : App) (words : List Text) (m : ArgMatches) → Reads command a →
    is_simple_and_free a ≡ true → HasMatchesOf (app_of command) words m → (rows_of (found_of m) ≡ matches_of a words)
    × (subcommand_rows_of m ≡ subcommand_of a words)
matched command a words m read free has =
    subst (λ (x : App). HasMatchesOf x words m) read.app has (simple _ _ free)

-- values that are given stay so by equal rows
pub given_by : (v : Values) (rows rows' : List Row) (found found' : Option (Text × List Row)) → rows ≡ rows'
    → found ≡ found' → AreGiven rows found v → AreGiven rows' found' v
given_by v rows rows' found found' e f given =
    subst (λ (r : List Row). AreGiven r found' v) e
    (subst (λ (x : Option (Text × List Row)). AreGiven rows x v) f given)

-- what a parse says of the faults of the arguments, it says of those that this finds
pub faulted : (P : Kinds → Type 0) (command : Command) (a : App) (words : List Text) → Reads command a →
    is_simple_and_free a ≡ true →
    (is_simple_and_free (app_of command) ≡ true → P (fault_of (app_of command) words)) → P (fault_of a words)
faulted P command a words read free says =
    subst (λ (x : App). is_simple_and_free x ≡ true → P (fault_of x words)) read.app says free

arg_added : (old new : Command) (x : Arg) (a : App) (r : Rule) → Reads old a → rule_of x ≡ r
    → x.global ≡ false
    → AddsArg old x new → Reads new (with_rule a r)
arg_added old new x a r read rule local adds = record {
  app = adds.shape local ∙ ap₂ with_rule read.app rule;
  local = adds.globals ∙ ap₂ (λ (m n : Bool). m || n) read.local local;
}

subcommand_added : (old sub new : Command) (a s : App) → Reads old a → Reads sub s
    → AddsSubcommand old sub new → Reads new (with_subcommand a s.top)
subcommand_added old sub new a s read below adds = record {
  app = adds.shape below.local ∙ ap₂ with_subcommand read.app (ap (λ (x : App). x.top) below.app);
  local = adds.globals ∙ ap₂ (λ (m n : Bool). m || n) read.local below.local;
}

-- the next argument is added, and those behind it are left
pub next_argument : (old new : Command) (x : Arg) (a whole : App) (xs : List Argument) (i : ℕ) (d : Argument)
    → i < length xs → Reads old a → with_arguments a (drop i xs) ≡ whole → rule_of x ≡ argument_rule (get_or xs i d)
    → x.global ≡ false → AddsArg old x new → (b : App) × Reads new b × (with_arguments b (drop (i + 1) xs) ≡ whole)
next_argument old new x a whole xs i d lt read rest rule local adds = (
  with_rule a (argument_rule (get_or xs i d)),
  arg_added old new x a _ read rule local adds,
  rw add-one (rw (drop-cons xs i d lt) at rest),
)

-- the next command is added, and those behind it are left
pub next_command : (old sub new : Command) (a whole : App) (ds : List Description) (i : ℕ) (d : Description)
    → i < length ds → Reads old a → with_commands a (drop i ds) ≡ whole → Reads sub (described (get_or ds i d))
    → AddsSubcommand old sub new → (b : App) × Reads new b × (with_commands b (drop (i + 1) ds) ≡ whole)
next_command old sub new a whole ds i d lt read rest below adds = (
  with_subcommand a (described (get_or ds i d)).top,
  subcommand_added old sub new a _ read below adds,
  rw add-one (rw (drop-cons ds i d lt) at rest),
)

-- if values name a command, it was found, and they are those of its rows
pub of_command : (v : Values) (rows : List Row) (found : Option (Text × List Row)) (name : Text)
    → option_map (λ s. s.now) v.command ≡ Some name → AreGiven rows found v
    → (of : List Row) × (found ≡ Some (name, of)) × AreValues of v
of_command v rows None name is given = absurd (let e = given.command in cc)
of_command v rows (Some (other, of)) name is given =
    (of, (let e = given.command in let same : other ≡ name = cc in ap (λ (n : Text). Some (n, of)) same), given.values)

-- if they name none, none was found, and they are those of the program's rows
pub of_program : (v : Values) (rows : List Row) (found : Option (Text × List Row)) → v.command ≡ None
    → AreGiven rows found v → (found ≡ None) × AreValues rows v
of_program v rows None is given = (refl, given.values)
of_program v rows (Some found) is given = absurd (let e = given.command in cc)

no_command : (a : App) (stop : Option (Text × List Text)) → a.subs ≡ [] → entered a stop ≡ None
no_command a None none = refl
no_command a (Some p) none =
    ap (λ (subs : List Shape). option_map (λ s. rows_at s p.1) (find (λ s. answers_to p.0 (label_of s)) subs)) none

-- a program that has no commands is given its own values
pub own_values : (a : App) (words : List Text) (v : Values) → (built a).subs ≡ []
    → AreGiven (matches_of a words) (subcommand_of a words) v → AreValues (matches_of a words) v
own_values a words v none given =
    subst (λ (f : Option (Text × List Row)). AreValues (option_map_or (λ p. p.1) f (matches_of a words)) v)
    (no_command (built a) _ none) given.values
