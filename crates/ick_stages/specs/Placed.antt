-- Where a statement and its parts are.
use Rattle.std.specs.Prelude.{ℕ, ◌≡◌, ◌≢◌, Bool, true, false, List, Option, Some, None, MatchOption}
use Rattle.ick_inspect.specs.Positions.{position_in}
use Rattle.ick_places.specs.declared.statement.Places.{Places}
use Rattle.ick_places.specs.Statements.{IsPlaced, IsPlacedFront, is_recognised}
use Rattle.ick_source.specs.Boundaries.{IsStart}
use Rattle.ick_source.specs.Statements.{IsStatement}
use Rattle.ick_source.specs.StopAnswers.{IsStopOf}
use Rattle.ick_source.specs.declared.stop.Stop.{Stop}
use Rattle.ick_stages.specs.declared.placed.Parts.{Parts}
use Rattle.ick_stages.specs.declared.placed.Placed.{Placed}
use Rattle.ick_syntax.specs.StatementTree.{StatementTree}

-- where the reading of a statement that begins at a byte stops, if it is unrecognised
abbrev pub IsStopAt : (source : List ℕ) → (start : ℕ) → (recognised : Bool) → Option Stop → Type 0
IsStopAt source start true stop = stop ≡ None
IsStopAt source start false None =
    (to : ℕ) (t : StatementTree) → IsStatement source start to t → t.body ≢ None
IsStopAt source start false (Some stop) = IsStopOf source start stop

-- The places of a statement that begins at a byte. Of the statement only the text counts, and whether it is recognised.
pub record ArePlaces (source : List ℕ) (start : ℕ) (t : StatementTree) (places : Places) : Type 0 where
  pub placed : (to : ℕ) (s : StatementTree) → IsStatement source start to s → s.text ≡ t.text →
      is_recognised s.body ≡ is_recognised t.body → IsPlaced source start s places
  pub front : (IsStart source start → ⊥) → IsPlacedFront start t places

-- the places of a statement's parts, and where its reading stops
pub record AreParts (source : List ℕ) (start : ℕ) (t : StatementTree) (parts : Parts) : Type 0 where
  pub places : ArePlaces source start t parts.places
  pub stop : IsStopAt source start (is_recognised t.body) parts.stop

-- the line and the column of a statement that begins at a byte, and its parts, if they are asked for
pub record IsPlacedAt (source : List ℕ) (start : ℕ) (asked : Bool) (t : StatementTree) (placed : Placed) : Type 0 where
  pub position : placed.position ≡ position_in source start
  pub parts : MatchOption placed.parts (asked ≡ false) (AreParts source start t)
