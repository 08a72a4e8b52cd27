-- The labels that bodies use: jumps, and what they abstain from or reinstate. Where such a label is in its body.
use Rattle.std.specs.Prelude.{◌≡◌, ℕ, Option, Some, None, List, codes}
use Rattle.ick_source.specs.Token.{IsNumber, IsWord}
use Rattle.ick_syntax.specs.BodyTree.{BodyTree, next, abstain_label, reinstate_label}

-- the label that a body uses
abbrev pub label_in : BodyTree → Option ℕ
label_in (next n) = Some n
label_in (abstain_label n) = Some n
label_in (reinstate_label n) = Some n
label_in _ = None

-- an opening parenthesis and a number are at a position
pub record IsLabelAt (from : List ℕ) (n : ℕ) : Type 0 where
  pub inside : List ℕ
  pub after : List ℕ
  pub opened : IsWord (codes "(") from inside
  pub number : IsNumber inside after n

-- the same after a word
pub record IsLabelAfter (word from : List ℕ) (n : ℕ) : Type 0 where
  pub behind : List ℕ
  pub spelled : IsWord word from behind
  pub label : IsLabelAt behind n

-- the same after two words
pub record IsLabelAfterTwo (first second from : List ℕ) (n : ℕ) : Type 0 where
  pub behind : List ℕ
  pub spelled : IsWord first from behind
  pub label : IsLabelAfter second behind n

-- the label of a body that begins at a position is where the body's form says
abbrev pub HasItsLabel : List ℕ → BodyTree → Type 0
HasItsLabel from (next n) = IsLabelAt from n
HasItsLabel from (abstain_label n) = IsLabelAfterTwo (codes "ABSTAIN") (codes "FROM") from n
HasItsLabel from (reinstate_label n) = IsLabelAfter (codes "REINSTATE") from n
HasItsLabel from _ = Unit {0}

-- a body uses a label that is at a position
pub record UsesAt (from : List ℕ) (body : BodyTree) : Type 0 where
  pub label : ℕ
  pub uses : label_in body ≡ Some label
  pub there : IsLabelAt from label
