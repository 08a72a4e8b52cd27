-- Describes the position of an explorer, and the answers of its calls.
use Rattle.std.specs.Prelude.{◌≡◌, ℕ, ◌+◌, ◌^◌, ◌≤◌, Bool, true, false, List, [], map, Option}
use Rattle.std.specs.Prelude.{Some, None}
use Rattle.ick_code.specs.meaning.State.{State}
use Rattle.ick_backtrack.specs.Machine.{Program, Machine}
use Rattle.ick_backtrack.specs.Asked.{finish_of}
use Rattle.ick_explorer.specs.Runs.{run, ends, IsWhole}
use Rattle.ick_explorer.specs.Order.{IsAfter}
use Rattle.ick_explorer.specs.Listings.{IsListing, IsLeastAfter, IsLast, shared, before_zeros, zeros_in}
use Rattle.ick_explorer.specs.declared.run.Run.{Run}
use Rattle.ick_explorer.specs.declared.path.Path.{Path}
use Rattle.ick_explorer.specs.declared.path.Progress.{Progress}
use Rattle.ick_explorer.specs.declared.path.Progress.TheVariants.{Fresh, Given, Spent}

-- the view of an explorer in contracts: `from` is the choices of the run last given, else of the cursor
pub record Explored : Type 0 where
  pub program : Program
  pub limit : ℕ
  pub from : Option (List Bool)
  pub present : State
  pub marks : List State
  pub points : List ℕ
  pub work : ℕ
  pub failed : Bool

-- the choices at the position, by the explorer's progress
abbrev pub position_of : Progress → List Bool → Option (List Bool)
position_of Fresh c = None
position_of Given c = Some c
position_of Spent c = None

abbrev pub has_failed : Progress → Bool
has_failed Fresh = false
has_failed Given = false
has_failed Spent = true

abbrev pub explored_at : Machine → ℕ → Path → Progress → Explored
explored_at m limit path progress = record {
  program = m.program;
  limit = limit;
  from = position_of progress path.choices;
  present = m.state;
  marks = m.marks;
  points = path.points.items;
  work = m.work;
  failed = has_failed progress;
}

-- each zero of c has the state of the run from s at that zero, and the number of steps before it
pub record Keeps (p : Program) (s : State) (limit : ℕ) (c : List Bool) (marks : List State) (points : List ℕ)
    : Type 0 where
  pub states : marks ≡ map (λ before. (run p s limit before).last) (before_zeros c)
  pub steps : points ≡ map (λ before. (run p s limit before).steps) (before_zeros c)

-- the position is after the run of a whole list, with the marks of its zeros
pub record StandsAfter (p : Program) (s : State) (limit : ℕ) (c : List Bool) (marks : List State) (points : List ℕ)
    : Type 0 where
  pub whole : IsWhole p s limit c
  pub keeps : Keeps p s limit c marks points

-- the position is before all runs, at the start state, without marks
pub record StandsFirst (s present : State) (marks : List State) (points : List ℕ) : Type 0 where
  pub at_start : present ≡ s
  pub no_marks : marks ≡ []
  pub no_points : points ≡ []

abbrev pub StandsFrom : Program → State → ℕ → Option (List Bool) → State → List State → List ℕ →
    Type 0
StandsFrom p s limit None present marks points = StandsFirst s present marks points
StandsFrom p s limit (Some c) present marks points = StandsAfter p s limit c marks points

-- the explorer has not failed, and has its position in the runs from s
pub record Stands (s : State) (e : Explored) : Type 0 where
  pub sound : e.failed ≡ false
  pub at_position : StandsFrom e.program s e.limit e.from e.present e.marks e.points

-- cs is the listing from the explorer's position, of the runs from s
abbrev pub IsListingAt : State → Explored → List (List Bool) → Type 0
IsListingAt s e cs = IsListing e.program s e.limit e.from cs

-- a run from s comes after the position
abbrev pub HasMore : State → Explored → Type 0
HasMore s e = (d : List Bool) × IsWhole e.program s e.limit d × IsAfter e.from d

-- no run from s comes after the position
abbrev pub IsAtLast : State → Explored → Type 0
IsAtLast s e = IsLast e.program s e.limit e.from

-- a failed explorer keeps no position, no marks and no points
pub record HasFailed (e : Explored) : Type 0 where
  pub failed : e.failed ≡ true
  pub no_position : e.from ≡ None
  pub no_marks : e.marks ≡ []
  pub no_points : e.points ≡ []

-- the answered run is the run of its choices
pub record IsRunOf (p : Program) (s : State) (limit : ℕ) (r : Run) : Type 0 where
  pub output : r.output.items ≡ (run p s limit r.choices.items).last.output
  pub stop : (run p s limit r.choices.items).stop ≡ ends (finish_of r.end)
  pub steps : r.steps ≡ (run p s limit r.choices.items).steps

-- the steps that the run of d shares with the run at the position
abbrev pub shared_from : Program → State → ℕ → Option (List Bool) → List Bool → ℕ
shared_from p s limit None d = 0
shared_from p s limit (Some c) d = shared p s limit c d

-- the call gives the least run after the position of old, and makes no shared step again
pub record Gives (s : State) (old : Explored) (r : Run) (new : Explored) : Type 0 where
  pub least : IsLeastAfter old.program s old.limit old.from r.choices.items
  pub is_run : IsRunOf old.program s old.limit r
  pub position : new.from ≡ Some r.choices.items
  pub stands : Stands s new
  pub work : new.work + shared_from old.program s old.limit old.from r.choices.items ≡ old.work + r.steps

-- the count of work has less than the limit left
abbrev pub IsFull : Explored → Type 0
IsFull e = 2 ^ 64 ≤ e.work + e.limit

-- the number of zeros in the choices at the position
abbrev pub zeros_of : Option (List Bool) → ℕ
zeros_of None = 0
zeros_of (Some c) = zeros_in c

-- the machine's count of work has less than the limit left
abbrev pub IsMachineFull : Machine → ℕ → Type 0
IsMachineFull m limit = 2 ^ 64 ≤ m.work + limit

-- the explorer has led a machine without marks along the run of c, and its position is after this run
pub record Resumes (m : Machine) (limit : ℕ) (c : List Bool) (e : Explored) : Type 0 where
  pub position : e.from ≡ Some c
  pub stands : Stands m.state e
  pub program : e.program ≡ m.program
  pub limit_kept : e.limit ≡ limit
  pub work : e.work ≡ m.work + (run m.program m.state limit c).steps
  pub within : e.work ≤ m.work + limit
