-- Describes the answer of writing a listing, and the explorer's position after it.
use Rattle.std.specs.Prelude.{◌≡◌, ℕ, ◌+◌, ◌^◌, ◌<◌, ◌≤◌, Bool, true, List, [], ◌∷◌}
use Rattle.std.specs.Prelude.{◌++◌, length, take, Option, Some, Result, Ok, Err}
use Rattle.ick_backtrack.specs.Machine.{Program}
use Rattle.ick_code.specs.meaning.State.{State}
use Rattle.ick_explorer.specs.declared.errors.RunsError.{RunsError}
use Rattle.ick_explorer.specs.declared.errors.RunsError.TheVariants.{NoMemory, NoSuchRun, WorkFull, Failed}
use Rattle.ick_explorer.specs.declared.errors.RunsError.TheVariants.{BadCursor, Read}
use Rattle.ick_explorer.specs.declared.errors.RunsError.TheVariants.{Write}
use Rattle.ick_explorer.specs.Runs.{run}
use Rattle.ick_explorer.specs.Standing.{Explored, Stands, HasFailed, IsFull, shared_from}
use Rattle.ick_explorer.specs.Lines.{run_lines, line_after, listed_of, shown}
use Rattle.ick_explorer.specs.declared.listing.Listed2.{Listed2}

-- the position after these runs
abbrev pub position_after : Option (List Bool) → List (List Bool) → Option (List Bool)
position_after from [] = from
position_after from (c ∷ cs) = position_after (Some c) cs

-- each run began with the limit left, and raised the count by the steps that the run before doesn't share
abbrev pub Counts : Program → State → ℕ → Option (List Bool) → ℕ → List (List Bool) → ℕ → Type 0
Counts p s l from before [] after = after ≡ before
Counts p s l from before (c ∷ cs) after = (before + l < 2 ^ 64) × ((between : ℕ)
    × (between + shared_from p s l from c ≡ before + (run p s l c).steps) × Counts p s l (Some c) between cs after)

-- these runs were given in order, and the explorer's position is after them
pub record Gave (s : State) (old : Explored) (cs : List (List Bool)) (new : Explored) : Type 0 where
  pub position : new.from ≡ position_after old.from cs
  pub stands : Stands s new
  pub program : new.program ≡ old.program
  pub limit : new.limit ≡ old.limit
  pub counts : Counts old.program s old.limit old.from old.work cs new.work

-- the listing of at most `count` runs is written whole
pub record Wrote (told : Bool) (s : State) (cs : List (List Bool)) (count : ℕ) (old new : Explored)
    (written written' : List ℕ) (listed : Listed2) : Type 0 where
  pub gave : Gave s old (take count cs) new
  pub text : told ≡ true → written' ≡ written ++ shown old.program s old.limit cs count
  pub says : listed ≡ listed_of cs count

-- the call ran out of memory in a further run that began with the limit left, after k whole lines
pub record WroteBeforeFailing (told : Bool) (s : State) (cs : List (List Bool)) (count : ℕ) (old new : Explored)
    (written written' : List ℕ) (k : ℕ) : Type 0 where
  pub fewer : k < count
  pub due : k < length cs
  pub begun : (work : ℕ) × Counts old.program s old.limit old.from old.work (take k cs) work
      × (work + old.limit < 2 ^ 64)
  pub failed : HasFailed new
  pub text : told ≡ true → written' ≡ written ++ run_lines old.program s old.limit (take k cs)

-- the count was full when a further run was expected, after k whole lines
pub record WroteUntilFull (told : Bool) (s : State) (cs : List (List Bool)) (count : ℕ) (old new : Explored)
    (written written' : List ℕ) (k : ℕ) : Type 0 where
  pub fewer : k < count
  pub due : k < length cs
  pub full : IsFull new
  pub gave : Gave s old (take k cs) new
  pub text : told ≡ true → written' ≡ written ++ run_lines old.program s old.limit (take k cs)

-- a write failed in the line after k whole lines; if the line is a run's, the position is after this run
pub record WroteInPart (told : Bool) (s : State) (cs : List (List Bool)) (count : ℕ) (old new : Explored)
    (written written' : List ℕ) (k n : ℕ) : Type 0 where
  pub within : k ≤ length (take count cs)
  pub gave : Gave s old (take (k + 1) (take count cs)) new
  pub text : told ≡ true → written' ≡ written ++ (run_lines old.program s old.limit (take k cs)
      ++ take n (line_after old.program s old.limit cs count k))

-- the facts that hold after each answer
abbrev pub Writes : Bool → State → List (List Bool) → ℕ → Explored → Explored → List ℕ → List ℕ →
    Result Listed2 RunsError → Type 0
Writes told s cs count old new w w' (Ok listed) = Wrote told s cs count old new w w' listed
Writes told s cs count old new w w' (Err NoMemory) = (k : ℕ) × WroteBeforeFailing told s cs count old new w w' k
Writes told s cs count old new w w' (Err WorkFull) = (k : ℕ) × WroteUntilFull told s cs count old new w w' k
Writes told s cs count old new w w' (Err Write) = (k n : ℕ) × WroteInPart told s cs count old new w w' k n
Writes told s cs count old new w w' (Err Failed) = ⊥
Writes told s cs count old new w w' (Err NoSuchRun) = ⊥
Writes told s cs count old new w w' (Err BadCursor) = ⊥
Writes told s cs count old new w w' (Err Read) = ⊥

-- the amount by which a call raises the sink's count of failures
abbrev pub write_failures : {T : Type 0} → Result T RunsError → ℕ
write_failures (Ok _) = 0
write_failures (Err Write) = 1
write_failures (Err NoMemory) = 0
write_failures (Err NoSuchRun) = 0
write_failures (Err WorkFull) = 0
write_failures (Err Failed) = 0
write_failures (Err BadCursor) = 0
write_failures (Err Read) = 0
