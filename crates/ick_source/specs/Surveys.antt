-- For private contracts: what decides the faults of statements that were read.
use Rattle.std.specs.Prelude.{◌≡◌, ℕ, Bool, true, false, List, Option}
use Rattle.std.specs.Borrow.{Bor}
use Rattle.std.specs.BTreeMap.{BTreeMap, get_by}
use Rattle.std.specs.Cmp.Lexicographic.{slice_cmp}
use Rattle.std.specs.Ordering.{nat_cmp}
use Rattle.ick_source.specs.declared.survey.Survey.{Survey}
use Rattle.ick_source.specs.Digits.{Spells}
use Rattle.ick_source.specs.Ranges.{IsFirst}
use Rattle.ick_source.specs.Seen.{SeesAll}
use Rattle.ick_syntax.specs.ProgramFaults.{HoldsAt, HasLabel}
use Rattle.ick_syntax.specs.StatementTree.{StatementTree, polite_in}

-- a test answers whether this holds
abbrev pub Tells : Bool → Type 0 → Type 0
Tells true P = P
Tells false P = P → ⊥

-- the number that a map of digits has at these digits
abbrev pub number_at : BTreeMap (Bor (List ℕ)) ℕ → List ℕ → Option ℕ
number_at labels digits = get_by (λ k. slice_cmp nat_cmp digits k.now) labels

-- the first of some statements that has a label is the one that the map has at the label's digits
abbrev pub AreFirstLabels : (ℕ → Type 0) → List StatementTree → BTreeMap (Bor (List ℕ)) ℕ → Type 0
AreFirstLabels Among trees labels = (digits : List ℕ) (label : ℕ) → Spells digits label →
    IsFirst (λ m. Among m × HoldsAt (HasLabel label) trees m) (number_at labels digits)

abbrev pub Any : ℕ → Type 0
Any m = Unit {0}

pub record Surveys (x : Survey) (trees : List StatementTree) : Type 0 where
  pub sees : SeesAll x.seen.now trees
  pub labels : AreFirstLabels Any trees x.labels
  pub polite : x.polite ≡ polite_in trees
