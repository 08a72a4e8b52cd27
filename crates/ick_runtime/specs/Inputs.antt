-- What input may be left.
use Rattle.std.specs.Prelude.{ℕ, List, drop, slice_range}

-- an input: the bytes that are left from a position on, and the word between two positions
pub record Input : Type 0 where
  pub left : ℕ → List ℕ
  pub word : ℕ → ℕ → List ℕ

abbrev pub input_of : List ℕ → Input
input_of text = record { left = λ n. drop n text; word = λ from to. slice_range text from to }

-- for each input that may be left now there is one that may have been left before, and the relation holds between both
abbrev pub Leads : {R : Type 0} → (R → Input → Type 0) → R → R → (Input → Input → Type 0) → Type 0
Leads Has old new P = (after : Input) → Has new after → (before : Input) × Has old before × P before after
