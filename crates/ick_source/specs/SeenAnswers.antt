-- For private contracts: the statements of a text that were read so far.
use Rattle.std.specs.Prelude.{ℕ, List, ◌++◌}
use Rattle.ick_source.specs.declared.seen.Seen.{Seen}
use Rattle.ick_source.specs.Boundaries.{IsBoundary}
use Rattle.ick_source.specs.Cut.{AreStatements, IsCut}
use Rattle.ick_source.specs.Seen.{SeesAll}
use Rattle.ick_syntax.specs.StatementTree.{StatementTree}

-- the text was read up to a boundary: however the rest is cut, the text is cut into these statements and the rest
pub record HasSeenUpTo (text : List ℕ) (at : ℕ) (xs : List Seen) : Type 0 where
  pub front : List StatementTree
  pub sees : SeesAll xs front
  pub boundary : IsBoundary text at
  pub cut : (rest : List StatementTree) → AreStatements text at rest → IsCut text (front ++ rest)
