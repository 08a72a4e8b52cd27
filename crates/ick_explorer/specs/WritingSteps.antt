-- Describes how a listing is written line by line, for private contracts.
use Rattle.std.specs.Prelude.{◌≡◌, ℕ, ◌+◌, ◌^◌, ◌<◌, ◌≤◌, Bool, true, false, List, []}
use Rattle.std.specs.Prelude.{◌++◌, length, take, drop, Result, Ok, Err}
use Rattle.ick_code.specs.meaning.State.{State}
use Rattle.ick_explorer.specs.declared.errors.RunsError.{RunsError}
use Rattle.ick_explorer.specs.declared.errors.RunsError.TheVariants.{NoMemory, NoSuchRun, WorkFull, Failed}
use Rattle.ick_explorer.specs.declared.errors.RunsError.TheVariants.{BadCursor, Read}
use Rattle.ick_explorer.specs.declared.errors.RunsError.TheVariants.{Write}
use Rattle.ick_explorer.specs.Listings.{IsListing}
use Rattle.ick_explorer.specs.Standing.{Explored, HasFailed, IsFull}
use Rattle.ick_explorer.specs.Lines.{run_lines, listed_of}
use Rattle.ick_explorer.specs.Writes.{Gave}
use Rattle.ick_explorer.specs.declared.listing.Listed2.{Listed2}

-- one more line is written, and xs is the listing from the position of old
pub record WritesOne (told : Bool) (s : State) (xs : List (List Bool)) (old new : Explored)
    (w w' : List ℕ) : Type 0 where
  pub some : 0 < length xs
  pub gave : Gave s old (take 1 xs) new
  pub rest : IsListing new.program s new.limit new.from (drop 1 xs)
  pub text : told ≡ true → w' ≡ w ++ run_lines old.program s old.limit (take 1 xs)

-- no line is written, because the listing is at its end
pub record WritesNone (told : Bool) (xs : List (List Bool)) (old new : Explored) (w w' : List ℕ) : Type 0 where
  pub none : xs ≡ []
  pub same : new ≡ old
  pub text : told ≡ true → w' ≡ w

-- the count was full when a run was expected
pub record FindsFull (told : Bool) (xs : List (List Bool)) (old new : Explored) (w w' : List ℕ) : Type 0 where
  pub due : 0 < length xs
  pub same : new ≡ old
  pub full : IsFull old
  pub text : told ≡ true → w' ≡ w

-- the call ran out of memory in an expected run that began with the limit left
pub record FailsToWrite (told : Bool) (xs : List (List Bool)) (old new : Explored) (w w' : List ℕ) : Type 0 where
  pub due : 0 < length xs
  pub begun : old.work + old.limit < 2 ^ 64
  pub failed : HasFailed new
  pub text : told ≡ true → w' ≡ w

-- the write of one line failed
pub record WritesPart (told : Bool) (s : State) (xs : List (List Bool)) (old new : Explored)
    (w w' : List ℕ) (n : ℕ) : Type 0 where
  pub some : 0 < length xs
  pub gave : Gave s old (take 1 xs) new
  pub text : told ≡ true → w' ≡ w ++ take n (run_lines old.program s old.limit (take 1 xs))

-- the facts that hold after each answer
abbrev pub WritesNext : Bool → State → List (List Bool) → Explored → Explored → List ℕ → List ℕ →
    Result Bool RunsError → Type 0
WritesNext told s xs old new w w' (Ok true) = WritesOne told s xs old new w w'
WritesNext told s xs old new w w' (Ok false) = WritesNone told xs old new w w'
WritesNext told s xs old new w w' (Err NoMemory) = FailsToWrite told xs old new w w'
WritesNext told s xs old new w w' (Err WorkFull) = FindsFull told xs old new w w'
WritesNext told s xs old new w w' (Err Write) = (n : ℕ) × WritesPart told s xs old new w w' n
WritesNext told s xs old new w w' (Err Failed) = ⊥
WritesNext told s xs old new w w' (Err NoSuchRun) = ⊥
WritesNext told s xs old new w w' (Err BadCursor) = ⊥
WritesNext told s xs old new w w' (Err Read) = ⊥

-- one more run at most was made within the limit, and the explorer has not failed
pub record IsWithin (old new : Explored) : Type 0 where
  pub sound : new.failed ≡ false
  pub limit : new.limit ≡ old.limit
  pub work : new.work ≤ old.work + old.limit

-- the explorer after each answer
abbrev pub Moves : Explored → Explored → Result Bool RunsError → Type 0
Moves old new (Ok some) = IsWithin old new
Moves old new (Err NoMemory) = HasFailed new
Moves old new (Err WorkFull) = IsFull old
Moves old new (Err Write) = Unit {0}
Moves old new (Err Failed) = ⊥
Moves old new (Err NoSuchRun) = ⊥
Moves old new (Err BadCursor) = ⊥
Moves old new (Err Read) = ⊥

-- the first i runs of the listing cs were written
pub record Along (told : Bool) (s : State) (cs : List (List Bool)) (i : ℕ) (old now : Explored)
    (w w' : List ℕ) : Type 0 where
  pub within : i ≤ length cs
  pub gave : Gave s old (take i cs) now
  pub rest : IsListing now.program s now.limit now.from (drop i cs)
  pub text : told ≡ true → w' ≡ w ++ run_lines old.program s old.limit (take i cs)

-- the lines of the runs are written, and the last line is expected
pub record AtEnd (told : Bool) (s : State) (cs : List (List Bool)) (count : ℕ) (old now : Explored) (w w' : List ℕ)
    (listed : Listed2) : Type 0 where
  pub gave : Gave s old (take count cs) now
  pub says : listed ≡ listed_of cs count
  pub text : told ≡ true → w' ≡ w ++ run_lines old.program s old.limit (take count cs)
