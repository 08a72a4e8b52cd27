-- How statements are shown, with their lines and columns.
use Rattle.std.specs.Prelude.{ℕ, ◌+◌, ◌-◌, ◌==◌, min, max, List, [], ◌++◌, length, codes, decimal, Option, Some, None}
use Rattle.std.specs.Prelude.{if◌then◌else◌, slice_index_or}
use Rattle.std.specs.List.{flat_map, range_with_len}
use Rattle.ick_bits.specs.Quoted.{quoted}
use Rattle.ick_syntax.specs.StatementTree.{StatementTree}
use Rattle.ick_code.specs.meaning.State.{statement_at}
use Rattle.ick_inspect.specs.declared.positions.LineColumn.{LineColumn}

abbrev pub text_at : Option StatementTree → List ℕ
text_at None = []
text_at (Some statement) = statement.text

-- `LINE:COLUMN`
unfoldable pub position_text : LineColumn → List ℕ
position_text position = decimal position.line ++ codes ":" ++ decimal position.column

-- `NUMBER LINE:COLUMN "TEXT"`; the statements are counted from 1
unfoldable pub statement_text : List StatementTree → List LineColumn → (number : ℕ) → List ℕ
statement_text program positions n =
    decimal n ++ codes " "
    ++ position_text (slice_index_or positions (n - 1) record { line = 0; column = 0 })
    ++ codes " " ++ quoted (text_at (statement_at program n))

-- a line of a listing, where the statement that is met next is marked
unfoldable pub listed_text : List StatementTree → List LineColumn → (place n : ℕ) → List ℕ
listed_text program positions place n =
    (if n == place then codes "> " else codes "  ") ++ statement_text program positions n ++ codes "\n"

-- the statements around the one that is met next: so many before it and behind it, if there are so many
unfoldable pub list_text : List StatementTree → List LineColumn → (place around : ℕ) → List ℕ
list_text program positions place around =
    let first = max 1 (place - around) in
    let last = min (length program) (place + around) in
    flat_map (listed_text program positions place) (range_with_len first ((last + 1) - first))
