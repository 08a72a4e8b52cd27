-- Statements as `ick list` shows them, with their lines and columns.
use Rattle.std.specs.Prelude.{ℕ, Bool, List, ◌++◌, Option, codes, decimal, if◌then◌else◌}
use Rattle.ick_bits.specs.Quoted.{quoted}
use Rattle.ick_inspect.specs.Statements.{position_text}
use Rattle.ick_inspect.specs.declared.positions.LineColumn.{LineColumn}
use Rattle.ick_source.specs.Listing.{label_text}
use Rattle.ick_syntax.specs.Kinds.{kind_of, kind_word}
use Rattle.ick_syntax.specs.StatementTree.{StatementTree}

unfoldable pub front_text : (number : ℕ) → LineColumn → Option ℕ → List ℕ
front_text number position label =
    decimal number ++ codes " " ++ position_text position ++ codes " " ++ label_text label

-- PLEASE or DO, and NOT if the statement is abstained from
abbrev pub head_text : (polite abstained : Bool) → List ℕ
head_text polite abstained =
    (if polite then codes " PLEASE" else codes " DO") ++ (if abstained then codes " NOT " else codes " - ")

unfoldable pub end_text : (chance : ℕ) → (kind text : List ℕ) → List ℕ
end_text chance kind text =
    decimal chance ++ codes " " ++ kind ++ codes " " ++ quoted text ++ codes "\n"

-- number, position, label, PLEASE or DO, NOT if the statement is abstained from, chance, kind, and the text in quotes
unfoldable pub placed_line : ℕ → LineColumn → StatementTree → List ℕ
placed_line number position t =
    front_text number position t.label ++ head_text t.polite t.abstained
    ++ end_text t.chance (kind_word (kind_of t.body)) t.text
