-- A line of digit names, and the number that it writes.
use Rattle.std.specs.Prelude.{ℕ, ◌+◌, ◌-◌, ◌<◌, ◌≤◌, ⊤, Bool, ◌&&◌, ◌||◌, not, nat_lt}
use Rattle.std.specs.Prelude.{◌==◌, if◌then◌else◌, List, [], ◌∷◌, map, length, codes, drop, slice_index}
use Rattle.std.specs.Prelude.{Option, Some, None, is_none, unwrap_or, Result, Ok, Err}
use Rattle.std.specs.Option.{option_map}
use Rattle.std.specs.List.{filter, find, before_first, range_with_len}
use Rattle.std.specs.Int.Digits.{number_from_digits}
use Rattle.std.specs.Str.{str_eq_ignore_ascii_case}
use Rattle.ick_bits.specs.Values.{limit_of}
use Rattle.ick_bits.specs.White.{is_white_byte}
use Rattle.ick_bits.specs.declared.digits.DigitFault.{DigitFault}
use Rattle.ick_bits.specs.declared.digits.DigitFault.TheVariants.{Word, TooLarge}
use Rattle.ick_bits.specs.declared.values.Width.TheVariants.{ThirtyTwo}

abbrev pub is_ink : ℕ → Bool
is_ink b = not (is_white_byte b)

-- a word begins at a position with ink, at the front or after a white byte
unfoldable pub begins_word : List ℕ → ℕ → Bool
begins_word line i = is_ink (slice_index line i) && (i == 0 || is_white_byte (slice_index line (i - 1)))

-- and goes on up to the first white byte
unfoldable pub word_at : List ℕ → ℕ → List ℕ
word_at line i = before_first is_white_byte (drop i line)

-- the table of names: words and their digits
abbrev pub names : List (List ℕ × ℕ)
names =
    (codes "OH", 0) ∷
    (codes "ZERO", 0) ∷
    (codes "ONE", 1) ∷
    (codes "TWO", 2) ∷
    (codes "THREE", 3) ∷
    (codes "FOUR", 4) ∷
    (codes "FIVE", 5) ∷
    (codes "SIX", 6) ∷
    (codes "SEVEN", 7) ∷
    (codes "EIGHT", 8) ∷
    (codes "NINE", 9) ∷
    (codes "NINER", 9) ∷ []

-- the digit of the first row with this word, in either letter case
abbrev pub digit_in : List ℕ → List (List ℕ × ℕ) → Option ℕ
digit_in word rows = option_map (λ row. row.1) (find (λ row. str_eq_ignore_ascii_case word row.0) rows)

-- the digit that a word names
unfoldable pub digit_of : List ℕ → Option ℕ
digit_of word = digit_in word names

abbrev pub digit_at : List ℕ → ℕ → Option ℕ
digit_at line i = digit_of (word_at line i)

-- the positions at which a word begins
unfoldable pub beginnings : List ℕ → List ℕ
beginnings line = filter (begins_word line) (range_with_len 0 (length line))

-- the first of them whose word names no digit
unfoldable pub first_unknown : List ℕ → Option ℕ
first_unknown line = find (λ i. is_none (digit_at line i)) (beginnings line)

-- the number that their words write, the most significant first
unfoldable pub number_of_words : List ℕ → ℕ
number_of_words line = number_from_digits 10 (map (λ i. unwrap_or (digit_at line i) 0) (beginnings line))

abbrev pub answer_of : List ℕ → Option ℕ → ℕ → Result ℕ DigitFault
answer_of line (Some i) v = Err (Word i (i + length (word_at line i)))
answer_of line None v = if nat_lt v (limit_of ThirtyTwo) then Ok v else Err TooLarge

-- the first unknown word; else too large; else the number
unfoldable pub line_answer : List ℕ → Result ℕ DigitFault
line_answer line = answer_of line (first_unknown line) (number_of_words line)

-- a word has a byte at least, and ends within the line
abbrev pub IsWithinLine : List ℕ → DigitFault → Type 0
IsWithinLine line (Word from to) = (from < to) × (to ≤ length line)
IsWithinLine line TooLarge = ⊤
