-- Every fault that refuses a text, each kind with each statement that has it.
use Rattle.std.specs.Prelude.{◌≡◌, ℕ, suc, ◌<◌, ◌≤◌, ◌⊎◌, List, [], ◌∷◌, length}
use Rattle.std.specs.List.{Contains}
use Rattle.ick_bits.specs.declared.faults.FaultKind.{FaultKind}
use Rattle.ick_source.specs.declared.all_faults.FaultAt.{FaultAt}
use Rattle.ick_syntax.specs.ProgramFaults.{IsFaultAt, rank}
use Rattle.ick_syntax.specs.StatementTree.{StatementTree}

-- a kind that comes earlier in the order of kinds, or the same kind at an earlier statement
abbrev pub IsBefore : FaultAt → FaultAt → Type 0
IsBefore x y = (rank x.kind < rank y.kind) ⊎ ((x.kind ≡ y.kind) × (x.number < y.number))

-- each is before all that follow it
abbrev pub AreAscending : List FaultAt → Type 0
AreAscending [] = Unit {0}
AreAscending (x ∷ xs) = ((y : FaultAt) → Contains xs y → IsBefore x y) × AreAscending xs

abbrev pub fault_at : FaultKind → ℕ → FaultAt
fault_at kind n = record { kind = kind; number = n }

-- exactly the faults that refuse these statements, each once, in the order in which the reader seeks them
pub record AreAllFaults (trees : List StatementTree) (faults : List FaultAt) : Type 0 where
  pub only : (x : FaultAt) → Contains faults x → IsFaultAt x.kind trees x.number
  pub all : (kind : FaultKind) (n : ℕ) → IsFaultAt kind trees n → Contains faults (fault_at kind n)
  pub order : AreAscending faults

-- for private contracts: a kind before this rank, or of this rank at one of so many statements
abbrev pub IsSought : ℕ → ℕ → FaultKind → ℕ → Type 0
IsSought limit count kind n = (rank kind < limit) ⊎ ((rank kind ≡ limit) × (n ≤ count))

-- for private contracts: all of these faults
pub record AreFaultsUpTo (trees : List StatementTree) (limit count : ℕ) (faults : List FaultAt) : Type 0 where
  pub only : (x : FaultAt) → Contains faults x → IsFaultAt x.kind trees x.number × IsSought limit count x.kind x.number
  pub all : (kind : FaultKind) (n : ℕ) → IsFaultAt kind trees n → IsSought limit count kind n →
      Contains faults (fault_at kind n)
  pub order : AreAscending faults
