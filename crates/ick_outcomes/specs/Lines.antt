-- Defines the text of a summary.
use Rattle.std.specs.Prelude.{◌≡◌, ℕ, Bool, true, false, List, [], ◌∷◌, ◌++◌, length, codes, decimal}
use Rattle.ick_bits.specs.Quoted.{quoted}
use Rattle.ick_explorer.specs.ChoiceTexts.{choices_text}
use Rattle.ick_outcomes.specs.Summaries.{count_of}
use Rattle.ick_numbers.specs.Values.{natural}
use Rattle.ick_outcomes.specs.Seen.{rows_of}
use Rattle.ick_outcomes.specs.Texts.{IsNumberText, IsWeightText}
use Rattle.ick_outcomes.specs.declared.outcome.Outcome.{Outcome}

-- a blank and an output, or nothing if the output is left out
abbrev pub output_text : Bool → List ℕ → List ℕ
output_text false output = codes " " ++ quoted output
output_text true output = []

-- The line of an outcome: the number of its runs, their weight, the choices of the first run, the end and the output.
-- The output is left out if the program is silent
pub record IsLine (exact silent : Bool) (o : Outcome) (line : List ℕ) : Type 0 where
  pub count : List ℕ
  pub weight : List ℕ
  pub counted : IsNumberText (natural o.count) count
  pub weighed : IsWeightText exact o.weight weight
  pub same : line ≡ count ++ codes " " ++ weight ++ codes " " ++ choices_text o.first.items ++ codes " "
      ++ o.end.items ++ output_text silent o.output.items ++ codes "\n"

-- the lines of outcomes, one after another
pub data AreLines (exact silent : Bool) : List Outcome → List ℕ → Type 0 where
  no_line : AreLines exact silent [] []
  one_more : (os : List Outcome) (o : Outcome) (text line : List ℕ) → AreLines exact silent os text →
      IsLine exact silent o line → AreLines exact silent (os ++ o ∷ []) (text ++ line)

-- the text of a summary: the lines of its outcomes, and a last line
pub record IsSummaryText (exact silent : Bool) (os : List Outcome) (text : List ℕ) : Type 0 where
  pub lines : List ℕ
  pub are_lines : AreLines exact silent os lines
  pub same : text ≡ lines ++ codes "DONE\n"

-- the line that says how many outcomes and how many runs there are
pub record IsTotal (os : List Outcome) (text : List ℕ) : Type 0 where
  pub runs : List ℕ
  pub counted : IsNumberText (count_of (rows_of os)) runs
  pub same : text ≡ decimal (length os) ++ codes " OUTCOMES, " ++ runs ++ codes " RUNS\n"
