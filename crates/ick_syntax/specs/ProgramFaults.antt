-- The faults of the statements of a program, for which a source is refused.
use Rattle.std.specs.Prelude.{◌≡◌, ℕ, zero, suc, ◌/◌, ◌<◌, ◌≤◌, List, length, slice_get, Option}
use Rattle.std.specs.Prelude.{Some, None, option_and_then, IsSomeAnd, IsTrue}
use Rattle.ick_bits.specs.declared.faults.FaultKind.{FaultKind}
use Rattle.ick_bits.specs.declared.faults.FaultKind.TheVariants.{MeshTooLarge, NameRange, LabelRange, SameLabel}
use Rattle.ick_bits.specs.declared.faults.FaultKind.TheVariants.{NoNextLabel, NoAbstainLabel, Impolite, Fawning}
use Rattle.ick_syntax.specs.declared.labels.LabelUse.{LabelUse}
use Rattle.ick_syntax.specs.declared.labels.LabelUse.TheVariants.{Next, Abstain}
use Rattle.ick_syntax.specs.StatementTree.{StatementTree, polite_in}
use Rattle.ick_syntax.specs.BodyTree.{BodyTree, next, abstain_label, reinstate_label}
use Rattle.ick_syntax.specs.StatementFaults.{faults_of_statement}

-- this holds of the statement with this number, counted from 1
abbrev pub HoldsAt : (StatementTree → Type 0) → List StatementTree → ℕ → Type 0
HoldsAt P trees zero = ⊥
HoldsAt P trees (suc k) = IsSomeAnd (slice_get trees k) P

abbrev pub HasLabel : ℕ → StatementTree → Type 0
HasLabel label tree = tree.label ≡ Some label

-- the statement with this number has a label that an earlier one has
pub record IsSameLabelAt (trees : List StatementTree) (n : ℕ) : Type 0 where
  pub label : ℕ
  pub earlier : ℕ
  pub before : earlier < n
  pub first : HoldsAt (HasLabel label) trees earlier
  pub again : HoldsAt (HasLabel label) trees n

-- the label that a body jumps to, or that it abstains from or reinstates
abbrev pub used_label : LabelUse → BodyTree → Option ℕ
used_label Next (next n) = Some n
used_label Abstain (abstain_label n) = Some n
used_label Abstain (reinstate_label n) = Some n
used_label _ _ = None

-- the statement with this number uses a label that no statement has
pub record IsLostAt (how : LabelUse) (trees : List StatementTree) (n : ℕ) : Type 0 where
  pub label : ℕ
  pub uses : HoldsAt (λ t. option_and_then (used_label how) t.body ≡ Some label) trees n
  pub nowhere : (m : ℕ) → HoldsAt (HasLabel label) trees m → ⊥

-- the fault of a use of a label that no statement has
abbrev pub fault_of_use : LabelUse → FaultKind
fault_of_use Next = NoNextLabel
fault_of_use Abstain = NoAbstainLabel

-- the number is that of the last of at least three statements, of which too few are polite
pub record IsImpoliteAt (trees : List StatementTree) (n : ℕ) : Type 0 where
  pub last : n ≡ length trees
  pub enough : 3 ≤ n
  pub few : polite_in trees < n / 5

-- the number is that of the last of at least three statements, of which too many are polite
pub record IsFawningAt (trees : List StatementTree) (n : ℕ) : Type 0 where
  pub last : n ≡ length trees
  pub enough : 3 ≤ n
  pub many : n / 3 < polite_in trees

-- the statement with this number has a fault of this kind, which refuses a source
abbrev pub IsFaultAt : FaultKind → List StatementTree → ℕ → Type 0
IsFaultAt MeshTooLarge trees n = HoldsAt (λ t. IsTrue (faults_of_statement t).mesh) trees n
IsFaultAt NameRange trees n = HoldsAt (λ t. IsTrue (faults_of_statement t).name) trees n
IsFaultAt LabelRange trees n = HoldsAt (λ t. IsTrue (faults_of_statement t).label) trees n
IsFaultAt SameLabel trees n = IsSameLabelAt trees n
IsFaultAt NoNextLabel trees n = IsLostAt Next trees n
IsFaultAt NoAbstainLabel trees n = IsLostAt Abstain trees n
IsFaultAt Impolite trees n = IsImpoliteAt trees n
IsFaultAt Fawning trees n = IsFawningAt trees n
IsFaultAt _ trees n = ⊥

-- the order in which the reader seeks faults: a kind with a lower rank comes first
abbrev pub rank : FaultKind → ℕ
rank MeshTooLarge = 0
rank NameRange = 1
rank LabelRange = 2
rank SameLabel = 3
rank NoNextLabel = 4
rank NoAbstainLabel = 5
rank Impolite = 6
rank Fawning = 7
rank _ = 8

-- these statements have no fault of a kind whose rank is below the limit
pub record IsSoundBelow (limit : ℕ) (trees : List StatementTree) : Type 0 where
  pub none : (kind : FaultKind) (n : ℕ) → rank kind < limit → IsFaultAt kind trees n → ⊥

-- these statements have no fault that refuses a source
abbrev pub IsSound : List StatementTree → Type 0
IsSound trees = (kind : FaultKind) (n : ℕ) → IsFaultAt kind trees n → ⊥

-- the kind is the first that any of these statements has, and the number is that of the first statement that has it
pub record IsFirstFault (trees : List StatementTree) (kind : FaultKind) (n : ℕ) : Type 0 where
  pub fault : IsFaultAt kind trees n
  pub first : (m : ℕ) → m < n → IsFaultAt kind trees m → ⊥
  pub least : IsSoundBelow (rank kind) trees
