-- Defines that rows have the least ranks of the nodes that end with their outcomes.
use Rattle.std.specs.Prelude.{◌≡◌, ℕ, ◌≤◌, List, Option, Some, slice_get, slice_index_or}
use Rattle.ick_code.specs.meaning.State.{State, Ending}
use Rattle.ick_code.specs.meaning.Move.{ended}
use Rattle.ick_outcomes.specs.Programs.{ask, Program}
use Rattle.ick_backtrack.specs.Asked.{finished}
use Rattle.ick_explorer.specs.Lines.{end_text}
use Rattle.ick_chain.specs.declared.chain.Node.{Node}
use Rattle.ick_chain.specs.declared.chain.Node.TheVariants.{Ends}
use Rattle.ick_chain.specs.declared.row.Row.{Row}
use Rattle.ick_chain.specs.declared.ways.Rank.{Rank}

-- a row that was made for an outcome, with a rank
pub record IsRankedRow (output end : List ℕ) (rank : Rank) (found : Option Row) : Type 0 where
  pub row : Row
  pub is : found ≡ Some row
  pub same_output : row.output.items ≡ output
  pub same_end : row.end.items ≡ end
  pub ranked : row.rank ≡ rank

-- some row has an outcome, and no greater rank
pub record HasRank (rows : List Row) (output end : List ℕ) (rank : ℕ) : Type 0 where
  pub at : ℕ
  pub row : Row
  pub there : slice_get rows at ≡ Some row
  pub same_output : row.output.items ≡ output
  pub same_end : row.end.items ≡ end
  pub least : row.rank.breadth ≤ rank

-- so it is for the outcome of each node that has ended, and its rank
abbrev pub AreRanked : Program → List State → List Node → List Rank → List Row → Type 0
AreRanked p ss nodes ranks rows = (i : ℕ) (s : State) (e : Ending) (k : Rank) → slice_get nodes i ≡ Some Ends →
    slice_get ss i ≡ Some s → ask p s ≡ ended e → slice_get ranks i ≡ Some k →
    HasRank rows s.output (end_text (finished e)) k.breadth

-- so it is for the numbers of nodes as their ranks
abbrev pub AreNumbered : Program → List State → List Node → List ℕ → List Row → Type 0
AreNumbered p ss nodes of rows = (i : ℕ) (s : State) (e : Ending) → slice_get nodes i ≡ Some Ends →
    slice_get ss i ≡ Some s → ask p s ≡ ended e →
    HasRank rows s.output (end_text (finished e)) (slice_index_or of i 0)

-- ranks have these numbers
pub record HaveNumbers (of : List ℕ) (ranks : List Rank) : Type 0 where
  pub each : (i n : ℕ) → slice_get of i ≡ Some n → (k : Rank) × (slice_get ranks i ≡ Some k) × (k.breadth ≡ n)

-- the text of an end of a program
abbrev pub IsEnd : List ℕ → Type 0
IsEnd text = (e : Ending) × (text ≡ end_text (finished e))
