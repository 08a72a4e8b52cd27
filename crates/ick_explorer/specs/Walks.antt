-- Describes how an explorer leads its machine along runs, for its private contracts.
use Rattle.std.specs.Prelude.{◌≡◌, ℕ, ◌+◌, ◌-◌, ◌<◌, ◌≤◌, ◌⊎◌, Bool, true, false, List, [], ◌∷◌}
use Rattle.std.specs.Prelude.{◌++◌, length, take, slice_get, Option, Some, None}
use Rattle.ick_code.specs.meaning.State.{State}
use Rattle.ick_code.specs.meaning.Move.{ask}
use Rattle.ick_backtrack.specs.Machine.{Program, Machine}
use Rattle.ick_backtrack.specs.Asked.{Finish, IsGoing}
use Rattle.ick_explorer.specs.Runs.{run, ends, stays}
use Rattle.ick_explorer.specs.Listings.{IsLeastAfter}
use Rattle.ick_explorer.specs.Paths.{Leads, AllZeros, TurnsAt}
use Rattle.ick_explorer.specs.Marked.{is_choice, IsMarked}
use Rattle.ick_explorer.specs.declared.walk.Way.{Way}
use Rattle.ick_explorer.specs.declared.walk.Way.TheVariants.{Zeros, Along}
use Rattle.ick_explorer.specs.Standing.{Explored, Keeps, Stands, StandsAfter, shared_from}

-- the machine has made n steps of the run from s with these choices, and has the marks of their zeros
pub record Walks (s : State) (limit : ℕ) (m : Machine) (c : List Bool) (points : List ℕ) (n : ℕ) : Type 0 where
  pub leads : Leads m.program s limit c m.state n
  pub keeps : Keeps m.program s limit c m.marks points

-- the machine asks a choice
abbrev pub IsChoosing : Machine → Type 0
IsChoosing m = is_choice (ask m.program m.state) ≡ true

-- the machine has made n steps and its run is over: it has ended, or no more steps are allowed
abbrev pub IsOver : (limit : ℕ) → Machine → (n : ℕ) → Type 0
IsOver limit m n = (¬ IsGoing (ask m.program m.state)) ⊎ (n ≡ limit)

-- the machine has made n steps and its run ends here, for every list of choices left
pub record EndsHere (limit : ℕ) (m : Machine) (n : ℕ) (finish : Finish) : Type 0 where
  pub stays_here : (c : List Bool) → run m.program m.state (limit - n) c ≡ stays m.state (ends finish) c

-- the machine moves from one position of a run, after n steps, to a later position
pub record Moves (limit : ℕ) (old : Machine) (c : List Bool) (points : List ℕ) (n : ℕ)
    (new : Machine) (c' : List Bool) (points' : List ℕ) (n' : ℕ) : Type 0 where
  pub program : new.program ≡ old.program
  pub work : new.work + n ≡ old.work + n'
  pub within : n' ≤ limit
  pub marked : IsMarked limit old c points → IsMarked limit new c' points'
  pub walks : (s : State) → Walks s limit old c points n → Walks s limit new c' points' n'

-- the choice that a way gives after `used` choices, if it has one
abbrev pub given_by : Way → ℕ → Option Bool
given_by Zeros used = Some false
given_by (Along choices) used = slice_get choices.now used

-- a way has given these choices
abbrev pub HasGiven : Way → List Bool → Type 0
HasGiven Zeros taken = AllZeros taken
HasGiven (Along choices) taken = taken ≡ take (length taken) choices.now

-- the machine moves by the choices that a way gives
pub record Goes (way : Way) (limit : ℕ) (old : Machine) (c : List Bool) (points : List ℕ) (n : ℕ)
    (new : Machine) (c' : List Bool) (points' : List ℕ) (n' : ℕ) : Type 0 where
  pub moves : Moves limit old c points n new c' points' n'
  pub taken : (z : List Bool) × HasGiven way z × (c' ≡ c ++ z)

-- the machine moves so until its run is over
pub record Ends (way : Way) (limit : ℕ) (old : Machine) (c : List Bool) (points : List ℕ) (n : ℕ)
    (new : Machine) (c' : List Bool) (points' : List ℕ) (n' : ℕ) : Type 0 where
  pub goes : Goes way limit old c points n new c' points' n'
  pub over : IsOver limit new n'

-- the machine moves so until it asks a choice below the limit, and the way has no further choice
pub record IsStranded (way : Way) (limit : ℕ) (old : Machine) (c : List Bool) (points : List ℕ) (n : ℕ)
    (new : Machine) (c' : List Bool) (points' : List ℕ) (n' : ℕ) : Type 0 where
  pub goes : Goes way limit old c points n new c' points' n'
  pub choosing : IsChoosing new
  pub below : n' < limit
  pub none : given_by way (length c' - length c) ≡ None

-- the machine is back at the last zero of c, which is now a one, after n steps
pub record TurnsBack (limit : ℕ) (old : Machine) (c : List Bool) (points : List ℕ)
    (new : Machine) (c' : List Bool) (points' : List ℕ) (n : ℕ) : Type 0 where
  pub program : new.program ≡ old.program
  pub work : new.work ≡ old.work + 1
  pub some : 0 < n
  pub within : n ≤ limit
  pub marked : IsMarked limit new c' points'
  pub turned : (pre : List Bool) × TurnsAt c pre × (c' ≡ pre ++ true ∷ [])
      × ((s : State) → StandsAfter old.program s limit c old.marks points →
      Walks s limit new c' points' n × (n ≡ (run old.program s limit pre).steps + 1))

-- the run of c stops in t after n steps, at this end
pub record Arrives (p : Program) (s : State) (limit : ℕ) (c : List Bool) (t : State) (n : ℕ) (finish : Finish)
    : Type 0 where
  pub is : run p s limit c ≡ record { last = t; stop = ends finish; steps = n; unused = [] }

-- the machine is at the end of the run of c, the least run after a position in the runs from s
pub record Finds (s : State) (limit : ℕ) (from : Option (List Bool)) (old new : Machine) (c : List Bool)
    (points : List ℕ) (n : ℕ) (finish : Finish) : Type 0 where
  pub least : IsLeastAfter old.program s limit from c
  pub arrives : Arrives old.program s limit c new.state n finish
  pub stands : StandsAfter old.program s limit c new.marks points
  pub work : new.work + shared_from old.program s limit from c ≡ old.work + n

-- the explorer has moved to the run of c, the least run after its old position
pub record Reaches (s : State) (old new : Explored) (c : List Bool) (n : ℕ) (finish : Finish) : Type 0 where
  pub least : IsLeastAfter old.program s old.limit old.from c
  pub arrives : Arrives old.program s old.limit c new.present n finish
  pub position : new.from ≡ Some c
  pub stands : Stands s new
  pub work : new.work + shared_from old.program s old.limit old.from c ≡ old.work + n

-- the machine was led along the run of c to its end
pub record Follows (limit : ℕ) (old : Machine) (c : List Bool) (new : Machine) (points : List ℕ) : Type 0 where
  pub program : new.program ≡ old.program
  pub stands : StandsAfter old.program old.state limit c new.marks points
  pub work : new.work ≡ old.work + (run old.program old.state limit c).steps
  pub within : new.work ≤ old.work + limit
