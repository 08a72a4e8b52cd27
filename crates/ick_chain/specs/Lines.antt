-- Defines how the lines of a listing come from rows, their counts and the runs that are shown.
use Rattle.std.specs.Prelude.{◌≡◌, ℕ, ◌<◌, Bool, List, [], ◌∷◌, ◌++◌, length, map, slice_get, Option, Some}
use Rattle.std.specs.Prelude.{None, option_map}
use Rattle.std.specs.List.{Contains}
use Rattle.std.specs.List.Sorted.{IsPermutation}
use Rattle.ick_numbers.specs.Values.{natural}
use Rattle.ick_code.specs.meaning.State.{State}
use Rattle.ick_outcomes.specs.Programs.{Program}
use Rattle.ick_outcomes.specs.Tallies.{lesser}
use Rattle.ick_chain.specs.ExactListings.{Line, HasEndlessRuns, IsLineText}
use Rattle.ick_chain.specs.Rows.{Row, row_of}
use Rattle.ick_chain.specs.Shown.{LeadAlong, LeadToNode}
use Rattle.ick_chain.specs.declared.chain.Node.{Node}
use Rattle.ick_chain.specs.declared.line.Line.{Line as KeptLine}

-- the line that is kept
abbrev pub line_of : KeptLine → Line
line_of l = record { row = row_of l.row; count = option_map natural l.count; shown = l.shown.items }

abbrev pub lines_of : List KeptLine → List Line
lines_of ls = map line_of ls

abbrev pub row_in : Line → Row
row_in l = l.row

-- the second of two if there is a count, and else the first
abbrev pub one_of : {A : Type 0} → Option ℕ → A → A → A
one_of None shown first = shown
one_of (Some n) shown first = first

-- a line has the row, the count and one of the runs with an index: the second if it has a count
pub record IsMade (rows : List Row) (counts : List (Option ℕ)) (shown first : List (List Bool)) (l : Line)
    : Type 0 where
  pub at : ℕ
  pub row : slice_get rows at ≡ Some l.row
  pub count : slice_get counts at ≡ Some l.count
  pub run : slice_get (one_of l.count shown first) at ≡ Some l.shown

-- lines were made from rows, one from each, in their order
pub record AreMade (rows : List Row) (counts : List (Option ℕ)) (shown first : List (List Bool)) (ls : List Line)
    : Type 0 where
  pub rows_are : map row_in ls ≡ rows
  pub each : (l : Line) → Contains ls l → IsMade rows counts shown first l

-- no line has its choices behind those of a later line
abbrev pub AreInOrder : List Line → Type 0
AreInOrder [] = Unit {0}
AreInOrder (l ∷ ls) = ((x : Line) → Contains ls x → lesser l.shown x.shown ≡ l.shown) × AreInOrder ls

-- the same lines, in order
pub record Sorts (old new : List Line) : Type 0 where
  pub same : IsPermutation old new
  pub ordered : AreInOrder new

-- each row without a count has infinitely many runs
abbrev pub AreEndless : Program → State → List Row → List (Option ℕ) → Type 0
AreEndless p s rows counts = (i : ℕ) (r : Row) → slice_get rows i ≡ Some r → slice_get counts i ≡ Some None →
    HasEndlessRuns p s r

-- the text of a line was appended
pub record AppendsLine (exact silent : Bool) (parts : ℕ) (l : Line) (old new : List ℕ) : Type 0 where
  pub line : List ℕ
  pub is_line : IsLineText exact silent parts l line
  pub same : new ≡ old ++ line

-- choices lead to a node, from there to itself by some choice, and on to another
pub record GoesRound (nodes : List Node) (at : ℕ) (before around behind : List Bool) (end : ℕ) : Type 0 where
  pub some : 0 < length around
  pub there : LeadToNode nodes before at
  pub round : LeadAlong nodes at around at
  pub on : LeadAlong nodes at behind end
