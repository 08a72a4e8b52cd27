-- What a call of a program answers.
use Rattle.std.specs.Prelude.{ℕ, List, []}

-- output, error text and status
pub record Answer : Type 0 where
  pub output : List ℕ
  pub errors : List ℕ
  pub status : ℕ

-- an answer without output
abbrev pub refusal : ℕ → List ℕ → Answer
refusal status errors = record { output = []; errors = errors; status = status }

-- an answer that ended well
abbrev pub shown : List ℕ → Answer
shown text = record { output = text; errors = []; status = 0 }
