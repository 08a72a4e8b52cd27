-- What readers of input have read.
use Rattle.std.specs.Prelude.{ℕ, ◌≡◌, Bool, List, [], ◌∷◌, ◌++◌, drop, Option, Some, None, Result, Ok, Err}
use Rattle.std.specs.Prelude.{if◌then◌else◌}
use Rattle.ick_bits.specs.declared.faults.FaultKind.TheVariants.{NoDigit, NoInput, SixtyFour}
use Rattle.ick_bits.specs.{Tape.tape_difference, declared.digits.DigitFault.DigitFault}
use Rattle.ick_bits.specs.declared.digits.DigitFault.TheVariants.{Word, TooLarge}
use Rattle.ick_code.specs.{meaning.State.State, meaning.Completion.Completion, meaning.Completion.faults}
use Rattle.ick_code.specs.{meaning.InputOutput.with_input, meaning.Tape.tape_numbers, meaning.Tape.last_read}
use Rattle.ick_runtime.specs.Inputs.{Input}
use Rattle.ick_engine.specs.declared.reader.Line.{Line}

-- what comes of the number of a line
abbrev pub number_outcome : Result ℕ DigitFault → Input → State → (ℕ → State → Completion) → Completion
number_outcome (Ok n) input s go = go n s
number_outcome (Err (Word begin end)) input s go = faults NoDigit (input.word begin end) s
number_outcome (Err TooLarge) input s go = faults SixtyFour [] s

-- what comes of a line that was taken at a position, or of the end of the input
abbrev pub line_outcome : Option Line → Input → ℕ → State → (ℕ → State → Completion) → Completion
line_outcome None input from s go = faults NoInput [] (record s { input = input.left from })
line_outcome (Some line) input from s go =
    number_outcome line.number input (record s { input = input.left line.next }) go

-- the next line from a position on
abbrev pub IsNext : Option Line → ℕ → Input → Input → Type 0
IsNext line from before after =
    (s : State) (go : ℕ → State → Completion) → s.input ≡ before.left from →
    with_input s.input s go ≡ line_outcome line after from s go

-- the next byte from a position on, and where the input goes on
abbrev pub IsByte : Option (ℕ × ℕ) → ℕ → Input → Input → Type 0
IsByte (Some (b, to)) from before after = before.left from ≡ b ∷ after.left to
IsByte None from before after = (before.left from ≡ []) × (after.left from ≡ [])

-- the number that an element gets from a byte or from the end of the input; the byte that was read last; the position
-- of the next byte
abbrev pub number_read : ℕ → Option (ℕ × ℕ) → ℕ
number_read lastin None = 256
number_read lastin (Some (b, to)) = tape_difference lastin b

abbrev pub last_after : ℕ → Option (ℕ × ℕ) → ℕ
last_after lastin None = lastin
last_after lastin (Some (b, to)) = b

abbrev pub position_after : ℕ → Option (ℕ × ℕ) → ℕ
position_after from None = from
position_after from (Some (b, to)) = to

-- the first `count` elements got the bytes of an input from a position on, unless all elements stay as they are
pub record HasRead (stays : Bool) (count lastin from : ℕ) (old new : List ℕ) (last to : ℕ)
    (before after : Input) : Type 0 where
  pub elements_are : new ≡ (if stays then old else tape_numbers count lastin (before.left from) ++ drop count old)
  pub last_is : last ≡ last_read count lastin (before.left from)
  pub rest_is : after.left to ≡ drop count (before.left from)
