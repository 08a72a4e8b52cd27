-- The values that options were given, among the parsed arguments of a command.
use Rattle.std.specs.Prelude.{◌≡◌, ◌^◌, ◌&&◌, ℕ, Bool, false, List, Option, Some, None, codes}
use Rattle.std.specs.Prelude.{if◌then◌else◌, nat_lt, option_and_then, option_map, unwrap_or}
use Rattle.std.specs.Option.{option_map_or}
use Rattle.std.specs.Str.{bytes_eq}
use Rattle.std.specs.Str.Parse.{digits_value, without_leading_plus}
use Rattle.clap.specs.ValueTests.{is_numeral}
use Rattle.clap.specs.Words.{Row, Text, first_of, one_of}
use Rattle.ick_job.specs.declared.words.given.Values.{Values}

-- the number that a text of decimal digits writes, if it has so many bits
abbrev pub parsed_number : ℕ → Text → Option ℕ
parsed_number bits text =
    let digits = without_leading_plus text in
    if is_numeral digits && nat_lt (digits_value 10 digits) (2 ^ bits) then Some (digits_value 10 digits) else None

-- the value of an option among the parsed arguments of a command: a text, whether a flag is given, a number, or the
-- usual number if none is given
abbrev pub text_in : Text → List Row → Option Text
text_in id rows = first_of id rows

abbrev pub flag_in : Text → List Row → Bool
flag_in id rows = option_map_or (λ t. bytes_eq t (codes "true")) (text_in id rows) false

abbrev pub number_in : ℕ → Text → List Row → Option ℕ
number_in bits id rows = option_and_then (parsed_number bits) (one_of id rows)

abbrev pub number_or : Text → List Row → ℕ → ℕ
number_or id rows usual = unwrap_or (number_in 32 id rows) usual

-- the values of a command's arguments
pub record AreValues (rows : List Row) (v : Values) : Type 0 where
  pub file : option_map (λ s. s.now) v.file ≡ text_in (codes "file") rows
  pub choices : option_map (λ s. s.now) v.choices ≡ text_in (codes "choices") rows
  pub from : option_map (λ s. s.now) v.from ≡ text_in (codes "from") rows
  pub seed : v.seed ≡ number_in 64 (codes "seed") rows
  pub limit : v.limit ≡ number_in 32 (codes "limit") rows
  pub count : v.count ≡ number_in 32 (codes "count") rows
  pub input : option_map (λ s. s.now) v.input ≡ text_in (codes "input") rows
  pub trace : v.trace ≡ flag_in (codes "trace") rows
  pub most : v.most ≡ number_in 32 (codes "most") rows
  pub memory : v.memory ≡ number_in 64 (codes "memory") rows
  pub exact : v.exact ≡ flag_in (codes "exact") rows
  pub total : v.total ≡ flag_in (codes "total") rows
  pub ends : v.ends ≡ flag_in (codes "ends") rows
  pub states : v.states ≡ flag_in (codes "states") rows
  pub asked : option_map (λ s. s.now) v.asked ≡ text_in (codes "asked") rows
  pub tree : v.tree ≡ flag_in (codes "tree") rows
  pub operations : v.operations ≡ flag_in (codes "operations") rows
  pub parts : v.parts ≡ flag_in (codes "parts") rows
  pub rules : v.rules ≡ flag_in (codes "rules") rows
  pub instructions : v.instructions ≡ flag_in (codes "instructions") rows
  pub traces : v.traces ≡ flag_in (codes "traces") rows
  pub statement : v.statement ≡ number_in 32 (codes "statement") rows

-- the values that parsed arguments give: those of the command that is named, or else of the program
pub record AreGiven (rows : List Row) (found : Option (Text × List Row)) (v : Values) : Type 0 where
  pub command : option_map (λ s. s.now) v.command ≡ option_map (λ p. p.0) found
  pub values : AreValues (option_map_or (λ p. p.1) found rows) v
