-- The statements of a text as they are read, whether the text is refused or not.
use Rattle.std.specs.Prelude.{ℕ, List, map, option_and_then}
use Rattle.std.specs.List.{AllZip}
use Rattle.ick_source.specs.declared.seen.Seen.{Seen}
use Rattle.ick_source.specs.Cut.{IsCut}
use Rattle.ick_source.specs.Digits.{SpellsSome}
use Rattle.ick_source.specs.StatementAnswers.{ReadsStatement}
use Rattle.ick_source.specs.UsedLabels.{label_in}
use Rattle.ick_syntax.specs.StatementTree.{StatementTree, AreNumbered}

-- this statement was read: with clamped numbers, the faults of its numbers, and the digits of its labels
pub record Sees (x : Seen) (tree : StatementTree) : Type 0 where
  pub reads : ReadsStatement x.statement x.faults tree
  pub label : SpellsSome x.label tree.label
  pub used : SpellsSome x.used (option_and_then label_in tree.body)

-- these statements were read, each in its place and with its number
pub record SeesAll (xs : List Seen) (trees : List StatementTree) : Type 0 where
  pub each : AllZip Sees xs trees
  pub numbered : AreNumbered (map (λ x. x.statement) xs)

-- the statements of a text were read
pub record SeesText (text : List ℕ) (xs : List Seen) : Type 0 where
  pub trees : List StatementTree
  pub cut : IsCut text trees
  pub sees : SeesAll xs trees
