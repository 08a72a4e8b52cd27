-- Defines what buffers hold while the text of a summary is written.
use Rattle.std.specs.Prelude.{◌≡◌, ℕ, Bool, List, ◌++◌}
use Rattle.ick_bits.specs.Quoted.{quoted}
use Rattle.ick_outcomes.specs.Lines.{IsLine}
use Rattle.ick_numbers.specs.Values.{natural}
use Rattle.ick_outcomes.specs.Texts.{IsNumberText, IsWeightText}
use Rattle.ick_outcomes.specs.declared.outcome.Outcome.{Outcome}

-- the texts of the count, of the weight and of the output of an outcome
pub record AreTexts (exact : Bool) (o : Outcome) (count weight output : List ℕ) : Type 0 where
  pub counted : IsNumberText (natural o.count) count
  pub weighed : IsWeightText exact o.weight weight
  pub written : output ≡ quoted o.output.items

-- the line of an outcome was appended
pub record AppendsLine (exact silent : Bool) (o : Outcome) (old new : List ℕ) : Type 0 where
  pub line : List ℕ
  pub is_line : IsLine exact silent o line
  pub same : new ≡ old ++ line
