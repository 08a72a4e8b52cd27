-- Defines the bytes that a search and its solver keep.
use Rattle.std.specs.Prelude.{◌≡◌, ℕ, ◌+◌, ◌*◌, ◌<◌, ◌≤◌, List, [], ◌∷◌, length, slice_get, Some}
use Rattle.std.specs.List.{Contains}
use Rattle.ick_code.specs.meaning.State.{State}
use Rattle.ick_outcomes.specs.Programs.{Program}
use Rattle.ick_outcomes.specs.Accounts.{Configuration}
use Rattle.ick_chain.specs.Places.{AllSuit, states_in}
use Rattle.ick_chain.specs.Reached.{AreDifferent, AreReached, bytes_of}

-- a row of a solver over so many nodes: the different nodes from which visits come to a node
pub record IsSolverRow (count : ℕ) (row : List ℕ) : Type 0 where
  pub different : (i j n : ℕ) → slice_get row i ≡ Some n → slice_get row j ≡ Some n → i ≡ j
  pub within : (i n : ℕ) → slice_get row i ≡ Some n → n < count

-- a row for each node at most
pub record AreSolverRows (count : ℕ) (rows : List (List ℕ)) : Type 0 where
  pub few : length rows ≤ count
  pub each : (row : List ℕ) → Contains rows row → IsSolverRow count row

abbrev pub entries_of : List (List ℕ) → ℕ
entries_of [] = 0
entries_of (row ∷ rows) = length row + entries_of rows

-- what a solver keeps for each entry of a row: a part of a row, a source, and a part of an equation
abbrev pub entry_bytes : ℕ
entry_bytes = 40

-- what a solver keeps for each node and each prime: a residue, and a digit of the solution
abbrev pub number_bytes : ℕ
number_bytes = 8

-- how many primes a solver tries at most
abbrev pub most_primes : ℕ
most_primes = 20000

abbrev pub solver_bytes : (count primes : ℕ) → List (List ℕ) → ℕ
solver_bytes count primes rows = number_bytes * (count * primes) + entry_bytes * entries_of rows

-- the entries of rows take more than so many bytes
pub record HasMoreEntries (count room : ℕ) : Type 0 where
  pub rows : List (List ℕ)
  pub are_rows : AreSolverRows count rows
  pub more : room < entry_bytes * entries_of rows

-- a solver over so many nodes keeps more than so many bytes
pub record SolverTakesMore (count room : ℕ) : Type 0 where
  pub primes : ℕ
  pub few : primes < most_primes
  pub rows : List (List ℕ)
  pub are_rows : AreSolverRows count rows
  pub more : room < solver_bytes count primes rows

-- different states that can be reached from s, and what a solver keeps for them, take more than `memory` bytes
pub record KeepsMore {S : Type 0} (p : Program) (seen : S → Configuration) (suits : S → Type 0) (size : S → ℕ)
    (s : State) (memory : ℕ) : Type 0 where
  pub states : List S
  pub primes : ℕ
  pub few : primes < most_primes
  pub rows : List (List ℕ)
  pub more : memory < bytes_of size states + solver_bytes (length states) primes rows
  pub are_rows : AreSolverRows (length states) rows
  pub suit : AllSuit suits states
  pub different : AreDifferent (states_in seen states)
  pub reached : AreReached p s (states_in seen states)

-- different nodes were counted, and no more than that
pub record HasSources (count n : ℕ) : Type 0 where
  pub row : List ℕ
  pub is_row : IsSolverRow count row
  pub counted : n ≤ length row

-- the entries of rows were counted, and no more than that
pub record HasEntries (count n : ℕ) : Type 0 where
  pub rows : List (List ℕ)
  pub are_rows : AreSolverRows count rows
  pub counted : n ≤ entries_of rows
