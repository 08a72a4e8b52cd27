-- The line and the column at a position of a source, and the positions at which the statements begin.
use Rattle.std.specs.Prelude.{ℕ, suc, ◌≡◌, ◌+◌, ◌<◌, ◌≤◌, ◌==◌, Bool, if◌then◌else◌, false, not, List, [], ◌∷◌, length}
use Rattle.std.specs.Prelude.{map, reverse, take}
use Rattle.std.specs.Prelude.{slice_index, slice_range, IsTrue}
use Rattle.std.specs.List.{count_by, take_while}
use Rattle.ick_bits.specs.White.{is_white_byte}
use Rattle.ick_syntax.specs.StatementTree.{StatementTree}
use Rattle.ick_source.specs.Cut.{IsCut}
use Rattle.ick_inspect.specs.declared.positions.LineColumn.{LineColumn}

abbrev pub ends_line : ℕ → Bool
ends_line b = b == 10

-- the line is one more than the ends of lines before the position; the column is one more than the bytes since the
-- last of them
unfoldable pub position_in : (source : List ℕ) → (at : ℕ) → LineColumn
position_in source at = record {
  line = suc (count_by ends_line (take at source));
  column = suc (length (take_while (λ b. not (ends_line b)) (reverse (take at source))));
}

-- the position behind a byte
unfoldable pub position_behind : LineColumn → ℕ → LineColumn
position_behind position b =
    if ends_line b then record { line = position.line + 1; column = 1 }
    else record { line = position.line; column = position.column + 1 }

-- a text begins at a position, and its first byte isn't white
pub record BeginsAt (source : List ℕ) (at : ℕ) (text : List ℕ) : Type 0 where
  pub some : 0 < length text
  pub within : at + length text ≤ length source
  pub text_is : slice_range source at (at + length text) ≡ text
  pub solid : is_white_byte (slice_index source at) ≡ false

-- the texts begin at these positions: each behind the one before it, with white bytes alone between them
pub data AreAt (source : List ℕ) : (from : ℕ) → (texts : List (List ℕ)) → (starts : List ℕ) → Type 0 where
  no_text : {from : ℕ} → AreAt source from [] []
  text_then : {from at : ℕ} {text : List ℕ} {texts : List (List ℕ)} {starts : List ℕ} →
      from ≤ at → ((k : ℕ) → from ≤ k → k < at → IsTrue (is_white_byte (slice_index source k))) →
      BeginsAt source at text → AreAt source (at + length text) texts starts →
      AreAt source from (text ∷ texts) (at ∷ starts)

abbrev pub texts_of : List StatementTree → List (List ℕ)
texts_of program = map (λ statement. statement.text) program

-- the statements of a source begin at exactly one list of positions
abbrev pub OneStart : Type 0
OneStart = (source : List ℕ) (program : List StatementTree) → IsCut source program →
    (starts : List ℕ)
    × AreAt source 0 (texts_of program) starts
    × ((others : List ℕ) → AreAt source 0 (texts_of program) others → others ≡ starts)
