-- Tables of constants: those of 16 by their shortest period, `[1 2]`, and those of 1,024 by the moves of bits,
-- `[0>0 2>1]`.
use Rattle.std.specs.Prelude.{ℕ, ◌+◌, ◌-◌, ◌*◌, ◌/◌, ◌%◌, ◌^◌, ◌==◌, ◌&&◌, Bool, false, not, List, [], ◌∷◌, ◌++◌, codes}
use Rattle.std.specs.Prelude.{decimal, length, take, drop, bit_and, nat_le, if◌then◌else◌, Option, Some, None}
use Rattle.std.specs.Prelude.{slice_get}
use Rattle.std.specs.List.{filter, range_with_len}
use Rattle.std.specs.Str.{bytes_eq}
use Rattle.ick_inspect.specs.Text.{numbers_text}
use Rattle.ick_stages.specs.Bodies.{joined_text}
use Rattle.ick_stages.specs.Registers.{RegisterNames}

-- the constants from a register on: so many, or those that there are
abbrev pub table_of : RegisterNames → (register size : ℕ) → List ℕ
table_of names register size = take size (drop (register - names.layout.first) names.constants)

-- numbers repeat after so many
abbrev pub repeats : (count : ℕ) → List ℕ → Bool
repeats count numbers =
    nat_le count (length numbers) && bytes_eq (drop count numbers) (take (length numbers - count) numbers)

-- the numbers that repeat, or all of them
abbrev pub period_of : List ℕ → List ℕ
period_of numbers =
    if repeats 1 numbers then take 1 numbers
    else if repeats 2 numbers then take 2 numbers
    else if repeats 4 numbers then take 4 numbers
    else if repeats 8 numbers then take 8 numbers
    else numbers

abbrev pub spaced_text : List ℕ → List ℕ
spaced_text [] = []
spaced_text (n ∷ ns) = decimal n ++ numbers_text (codes " ") ns

unfoldable pub bracketed_text : List ℕ → List ℕ
bracketed_text numbers = codes "[" ++ spaced_text numbers ++ codes "]"

-- an entry has a one at a position
abbrev pub has_one : Option ℕ → ℕ → Bool
has_one None to = false
has_one (Some entry) to = not (bit_and entry (2 ^ to) == 0)

-- the entry of the number with the one bit `from` has a one at position `to`
abbrev pub is_moved : List ℕ → (from to : ℕ) → Bool
is_moved table from to = has_one (slice_get table ((from / 8 * 256) + 2 ^ (from % 8))) to

unfoldable pub move_text : (from to : ℕ) → List ℕ
move_text from to = decimal from ++ codes ">" ++ decimal to

abbrev pub is_pair : List ℕ → ℕ → Bool
is_pair table pair = is_moved table (pair / 32) (pair % 32)

abbrev pub pair_text : ℕ → List ℕ
pair_text pair = move_text (pair / 32) (pair % 32)

abbrev pub separator_text : Bool → List ℕ
separator_text some = if some then codes " " else []

-- a move if a table makes it, behind a space if there are some before it
abbrev pub one_text : List ℕ → (some : Bool) → ℕ → List ℕ
one_text table some pair = if is_pair table pair then separator_text some ++ pair_text pair else []

unfoldable pub moves_text : List ℕ → List ℕ
moves_text table =
    codes "[" ++ joined_text (codes " ") pair_text (filter (is_pair table) (range_with_len 0 1024)) ++ codes "]"

abbrev pub sized_text : List ℕ → (size : ℕ) → List ℕ
sized_text table size = if size == 16 then bracketed_text (period_of table) else moves_text table

unfoldable pub table_text : RegisterNames → (register size : ℕ) → List ℕ
table_text names register size =
    codes " " ++ sized_text (table_of names register size) size
