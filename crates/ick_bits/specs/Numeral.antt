-- The numeral of a number, its printed form, and what a list of symbols is worth.
use Rattle.std.specs.Prelude.{ℕ, ◌*◌, ◌-◌, ℤ, pos, neg_ℤ, ◌+ℤ◌, Bool, true, false, nat_lt, ◌==◌}
use Rattle.std.specs.Prelude.{if◌then◌else◌}
use Rattle.std.specs.Prelude.{List, [], ◌∷◌, ◌++◌, map, length, slice_index_or, decimal, codes}
use Rattle.std.specs.List.{list_any}
use Rattle.std.specs.Char.{digit_value}
use Rattle.ick_bits.specs.declared.numerals.Symbol.{Symbol}
use Rattle.ick_bits.specs.declared.numerals.Letters.{Letters}

-- a letter, with a bar or without
abbrev pub symbol : ℕ × Bool → Symbol
symbol m = record { letter = m.0; barred = m.1 }

-- a row of the table below: the letters for one, five and ten
abbrev pub letters_in : (ℕ × Bool) × (ℕ × Bool) × (ℕ × Bool) → Letters
letters_in row = record { one = symbol row.0; five = symbol row.1; ten = symbol row.2 }

-- the table of letters: for one, five and ten of each decimal place, from the units up; `~` stands for a bar.
-- The last letter of the last row is never used, since a number below 2 ^ 32 has a digit of at most 4 there
abbrev pub letter_table : List ((ℕ × Bool) × (ℕ × Bool) × (ℕ × Bool))
letter_table =
    -- I V X
    ((73, false), (86, false), (88, false)) ∷
    -- X L C
    ((88, false), (76, false), (67, false)) ∷
    -- C D M
    ((67, false), (68, false), (77, false)) ∷
    -- M ~V ~X
    ((77, false), (86, true), (88, true)) ∷
    -- ~X ~L ~C
    ((88, true), (76, true), (67, true)) ∷
    -- ~C ~D ~M
    ((67, true), (68, true), (77, true)) ∷
    -- ~M v x
    ((77, true), (118, false), (120, false)) ∷
    -- x l c
    ((120, false), (108, false), (99, false)) ∷
    -- c d m
    ((99, false), (100, false), (109, false)) ∷
    -- m ~v ~x
    ((109, false), (118, true), (120, true)) ∷ []

-- the letters of the place that has k digits to its right
abbrev pub letters_of : ℕ → Letters
letters_of k = letters_in (slice_index_or letter_table k ((0, false), (0, false), (0, false)))

-- a digit at a place: 0 nothing, 1 a, 2 aa, 3 aaa, 4 ab, 5 b, 6 ba, 7 baa, 8 baaa, 9 ac
abbrev pub patterns : Letters → List (List Symbol)
patterns p =
    let a = p.one in
    let b = p.five in
    let c = p.ten in
    [] ∷ (a ∷ []) ∷ (a ∷ a ∷ []) ∷ (a ∷ a ∷ a ∷ []) ∷ (a ∷ b ∷ [])
    ∷ (b ∷ []) ∷ (b ∷ a ∷ []) ∷ (b ∷ a ∷ a ∷ []) ∷ (b ∷ a ∷ a ∷ a ∷ [])
    ∷ (a ∷ c ∷ []) ∷ []

unfoldable pub digit_symbols : Letters → ℕ → List Symbol
digit_symbols p d = slice_index_or (patterns p) d []

-- the symbols of a digit at the place that has k digits to its right
abbrev pub place_symbols : ℕ → ℕ → List Symbol
place_symbols k d = digit_symbols (letters_of k) d

-- each digit at its place, from the left
unfoldable pub symbols_of : List ℕ → List Symbol
symbols_of [] = []
symbols_of (d ∷ ds) = place_symbols (length ds) d ++ symbols_of ds

-- the decimal digits of a number, from the left
abbrev pub decimal_digits : ℕ → List ℕ
decimal_digits v = map digit_value (decimal v)

unfoldable pub numeral_of : ℕ → List Symbol
numeral_of v = symbols_of (decimal_digits v)

-- what a capital is worth: I V X L C D M
abbrev pub capital_value : ℕ → ℕ
capital_value c =
    if c == 73 then 1 else if c == 86 then 5 else if c == 88 then 10 else if c == 76 then 50
    else if c == 67 then 100 else if c == 68 then 500 else if c == 77 then 1000 else 0

-- a small letter is worth a million times its capital, which stands 32 below it
abbrev pub letter_value : ℕ → ℕ
letter_value c = if nat_lt c 97 then capital_value c else 1000000 * capital_value (c - 32)

-- a bar makes it a thousand times as much
unfoldable pub symbol_value : Symbol → ℕ
symbol_value s = letter_value s.letter * (if s.barred then 1000 else 1)

abbrev pub first_value : List Symbol → ℕ
first_value [] = 0
first_value (s ∷ ss) = symbol_value s

-- the sum of the symbols, each with a minus sign if the one right after it is worth more
unfoldable pub worth : List Symbol → ℤ
worth [] = pos 0
worth (s ∷ ss) =
    (if nat_lt (symbol_value s) (first_value ss) then neg_ℤ (pos (symbol_value s)) else pos (symbol_value s))
    +ℤ worth ss

-- the byte of a letter
abbrev pub letter_byte : Symbol → ℕ
letter_byte s = s.letter

-- a `_` (95) over a barred letter and a space (32) over another
abbrev pub bar_byte : Symbol → ℕ
bar_byte s = if s.barred then 95 else 32

-- the line of bars, with no spaces at its end
unfoldable pub bar_line : List Symbol → List ℕ
bar_line [] = []
bar_line (s ∷ ss) = if list_any (λ t. t.barred) (s ∷ ss) then bar_byte s ∷ bar_line ss else []

-- both lines; no symbols stand for zero
unfoldable pub printed : List Symbol → List ℕ
printed ss =
    if length ss == 0 then codes "_\n\n"
    else bar_line ss ++ codes "\n" ++ map letter_byte ss ++ codes "\n"
