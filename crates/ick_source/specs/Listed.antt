-- The statements of a text and all its faults, whether the text is refused or not.
use Rattle.std.specs.Prelude.{ℕ, ◌<◌, List, [], ◌∷◌, length}
use Rattle.ick_source.specs.declared.all_faults.FaultAt.{FaultAt}
use Rattle.ick_source.specs.declared.refusals.Refusal.{Refusal}
use Rattle.ick_source.specs.declared.refusals.Refusal.TheVariants.{Fault, TooLong, NoMemory}
use Rattle.ick_source.specs.declared.statements.Listed.{Listed}
use Rattle.ick_source.specs.AllFaults.{AreAllFaults}
use Rattle.ick_source.specs.Cut.{IsCut}
use Rattle.ick_source.specs.Refusals.{Compiles, IsRefused, longest}
use Rattle.ick_source.specs.Seen.{SeesAll}
use Rattle.ick_syntax.specs.StatementTree.{StatementTree}

-- the text is refused with the first of these faults; without faults it compiles
abbrev pub IsAnsweredBy : List ℕ → List StatementTree → List FaultAt → Type 0
IsAnsweredBy text trees [] = Compiles text trees
IsAnsweredBy text trees (first ∷ others) = IsRefused text first.kind first.number

-- exactly the statements into which the text is cut, with clamped numbers, and exactly their faults
pub record IsListed (text : List ℕ) (x : Listed) : Type 0 where
  pub trees : List StatementTree
  pub cut : IsCut text trees
  pub statements : SeesAll x.statements.items trees
  pub faults : AreAllFaults trees x.faults.items
  pub answer : IsAnsweredBy text trees x.faults.items

-- the meaning of a refusal to list the statements of a text
abbrev pub RefusesToList : List ℕ → Refusal → Type 0
RefusesToList text (Fault kind n) = ⊥
RefusesToList text TooLong = longest < length text
RefusesToList text NoMemory = Unit {0}
