-- Where the reading of an unrecognised statement stops.
use Rattle.std.specs.Prelude.{◌≡◌, ℕ, None, List, drop}
use Rattle.ick_source.specs.declared.stop.Stop.{Stop}
use Rattle.ick_source.specs.declared.position.Position.{Position}
use Rattle.ick_source.specs.declared.wanted.Wanted.{Wanted}
use Rattle.ick_source.specs.declared.wanted.Wanted.TheVariants.{End}
use Rattle.ick_source.specs.BodyAnswers.{EndsAfter}
use Rattle.ick_source.specs.BodyGrammar.{bodies}
use Rattle.ick_source.specs.Bytes.{IsGap}
use Rattle.ick_source.specs.Grammar.{stands}
use Rattle.ick_source.specs.Position.{characters, left_at, past_white}
use Rattle.ick_source.specs.Statements.{IsHead, IsStatement}
use Rattle.ick_source.specs.Stops.{stops}
use Rattle.ick_syntax.specs.BodyTree.{BodyTree}
use Rattle.ick_syntax.specs.StatementTree.{StatementTree}

-- the reading of the body that begins at a byte stops at a position: within the body, or behind it, where the statement
-- doesn't end
pub data StopsAt (text : List ℕ) (begin : ℕ) (at : Position) : Wanted → Type 0 where
  within_body : {w : Wanted} →
      stops bodies (characters (drop begin text)) (characters (drop begin text)) (left_at text at) w →
      StopsAt text begin at w
  behind_body : (tree : BodyTree) →
      stands bodies (characters (drop begin text)) (left_at text at) tree →
      ((to : ℕ) → EndsAfter text at to → ⊥) →
      StopsAt text begin at End

abbrev pub place_of : Stop → Position
place_of stop = record { at = stop.at; between = stop.within }

-- the reading of a body stops there: after white bytes it is at the place that is answered
pub record IsStopFrom (text : List ℕ) (begin : ℕ) (stop : Stop) : Type 0 where
  pub last : Position
  pub stops : StopsAt text begin last stop.wanted
  pub place : left_at text (place_of stop) ≡ past_white (left_at text last)

-- an unrecognised statement starts at a byte, and the reading of its body stops there
pub record IsStopOf (text : List ℕ) (at : ℕ) (stop : Stop) : Type 0 where
  pub to : ℕ
  pub tree : StatementTree
  pub statement : IsStatement text at to tree
  pub unrecognised : tree.body ≡ None
  pub head : ℕ
  pub begin : ℕ
  pub says : IsHead text at head tree
  pub gap : IsGap text head begin
  pub stops : IsStopFrom text begin stop
