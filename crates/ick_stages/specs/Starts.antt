-- Where the statements of a source begin, by their texts.
use Rattle.std.specs.Prelude.{ℕ, ◌≡◌, ◌+◌, ◌-◌, ◌<◌, ◌≤◌, List, ◌∷◌, Some, length, min, drop, slice_get}
use Rattle.ick_inspect.specs.Positions.{position_in, texts_of}
use Rattle.ick_source.specs.Boundaries.{IsNextBoundary}
use Rattle.ick_source.specs.Bytes.{IsGap}
use Rattle.ick_source.specs.Cut.{AreStatements, IsCut, plain}
use Rattle.ick_source.specs.Statements.{IsTrimmed}
use Rattle.ick_stages.specs.declared.point.Point.{Point}
use Rattle.ick_syntax.specs.StatementTree.{StatementTree}

-- the byte behind a text that begins at a byte, or the end of the source
abbrev pub behind : (source : List ℕ) → (start : ℕ) → (text : List ℕ) → ℕ
behind source start text = start + min (length text) (length source - start)

-- how far the first texts go: each begins at the first byte behind the one before it that isn't white
pub data Reaches (source : List ℕ) (texts : List (List ℕ)) : (n at : ℕ) → Type 0 where
  no_text : Reaches source texts 0 0
  one_more : {n at start : ℕ} {text : List ℕ} →
      Reaches source texts n at →
      slice_get texts n ≡ Some text →
      IsGap source at start →
      Reaches source texts (n + 1) (behind source start text)

-- the text behind so many others begins at a byte
pub record Starts (source : List ℕ) (texts : List (List ℕ)) (n start : ℕ) : Type 0 where
  pub at : ℕ
  pub reaches : Reaches source texts n at
  pub gap : IsGap source at start

-- From a byte on a cut has its statements behind so many others, one after another. Before all statements, the first
-- bytes that are no statement may begin there.
pub data GoesOn (source : List ℕ) (trees : List StatementTree) : (n start : ℕ) → Type 0 where
  statements : {n start : ℕ} → AreStatements source start (drop n trees) → GoesOn source trees n start
  front : {start first : ℕ} {bytes : List ℕ} {rest : List StatementTree} →
      start < first →
      IsNextBoundary source 0 first →
      IsTrimmed source start first bytes →
      AreStatements source first rest →
      trees ≡ plain bytes ∷ rest →
      GoesOn source trees 0 start

-- behind each number of texts the cut goes on at one byte
pub record StartsAreOfCut (source : List ℕ) (trees : List StatementTree) : Type 0 where
  pub some : (n : ℕ) → n ≤ length trees → (start : ℕ) × Starts source (texts_of trees) n start
  pub one : (n a b : ℕ) → Starts source (texts_of trees) n a → Starts source (texts_of trees) n b → a ≡ b
  pub goes_on : (n start : ℕ) → Starts source (texts_of trees) n start → GoesOn source trees n start

abbrev pub StartsOfCut : Type 0
StartsOfCut = (source : List ℕ) (trees : List StatementTree) → IsCut source trees → StartsAreOfCut source trees

-- the line and the column are those of the byte
pub record IsPoint (source : List ℕ) (point : Point) : Type 0 where
  pub within : point.at ≤ length source
  pub position : point.position ≡ position_in source point.at
