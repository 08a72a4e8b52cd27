-- How output leaves while a run goes on.
use Rattle.std.specs.Prelude.{ℕ, ◌≡◌, ◌<◌, ◌≤◌, ◌++◌, Bool, true, false, List, [], length, take}
use Rattle.std.specs.Prelude.{Result, Ok, Err}
use Rattle.ick_code.specs.meaning.State.{State}
use Rattle.ick_backtrack.specs.{Machine.Program, Steps.IsPlain, Steps.Rests, Steps.RunsOn}
use Rattle.ick_machine.specs.{Feeds.MeetsInput, Live.LiveMachine, Live.cleared, Live.fed}
use Rattle.ick_machine.specs.declared.outlet.{OutletFault.OutletFault, RunFault.RunFault}
use Rattle.ick_machine.specs.declared.outlet.RunFault.TheVariants.{NoMemory, Read, Write}

-- how many writes failed in a call of an outlet
abbrev pub outlet_failures : Result (Unit {0}) OutletFault → ℕ
outlet_failures (Ok unit) = 0
outlet_failures (Err fault) = 1

abbrev pub failed_writes : RunFault → ℕ
failed_writes NoMemory = 0
failed_writes Read = 0
failed_writes Write = 1

abbrev pub failed_reads : RunFault → ℕ
failed_reads NoMemory = 0
failed_reads Read = 1
failed_reads Write = 0

-- how many writes failed in a call of a machine
abbrev pub run_writes : Result ℕ RunFault → ℕ
run_writes (Ok steps) = 0
run_writes (Err fault) = failed_writes fault

-- and how many reads
abbrev pub run_reads : Result ℕ RunFault → ℕ
run_reads (Ok steps) = 0
run_reads (Err fault) = failed_reads fault

-- the run comes to this state within the limit, and goes on by itself before each step
pub record Reaches (program : Program) (s : State) (limit : ℕ) (u : State) : Type 0 where
  pub steps : ℕ
  pub within : steps ≤ limit
  pub runs : RunsOn IsPlain program s steps u

-- the run comes to a state within the limit, and the first bytes of its output are written, `count` of them
pub record HasLeft (program : Program) (s : State) (limit : ℕ) (written written' : List ℕ) (count : ℕ)
    : Type 0 where
  pub state : State
  pub reaches : Reaches program s limit state
  pub within : count ≤ length state.output
  pub text : written' ≡ written ++ take count state.output

-- the run comes to a state by this number of steps, and goes on by itself before each. All its output is written
pub record Writes (told : Bool) (program : Program) (s : State) (steps : ℕ) (written written' : List ℕ)
    : Type 0 where
  pub state : State
  pub runs : RunsOn IsPlain program s steps state
  pub text : told ≡ true → written' ≡ written ++ state.output

-- after a number, the run made that many steps, and all output is written and no longer held. After an error, a prefix
-- of the run's output is written
abbrev pub Prints : {E : Type 0} → (told : Bool) → Program → State → (limit : ℕ) → (now : State) →
    (written written' : List ℕ) → Result ℕ E → Type 0
Prints told program s limit now written written' (Ok steps) =
    (all : Writes told program s steps written written') × (now ≡ cleared all.state)
Prints told program s limit now written written' (Err error) =
    told ≡ true → ∥ ((count : ℕ) × HasLeft program s limit written written' count) ∥₁

-- the run comes to a WRITE IN within the limit, and exactly the output of the steps before it is written
pub record IsAtInput (told : Bool) (program : Program) (s : State) (limit : ℕ) (written written' : List ℕ) : Type 0
  where
    pub steps : ℕ
    pub within : steps < limit
    pub all : Writes told program s steps written written'
    pub plain : IsPlain program all.state
    pub meets : MeetsInput program all.state

-- the machine stopped after this number of steps at the limit, at a choice, or at the end
pub record IsDone (limit steps : ℕ) (machine : LiveMachine) : Type 0 where
  pub within : steps ≤ limit
  pub rests : Rests IsPlain machine.program limit steps machine.state

abbrev pub is_error : {T E : Type 0} → Result T E → Bool
is_error (Ok value) = false
is_error (Err error) = true

-- the machine keeps its program and holds no output. It has failed exactly after an error
pub record Leaves {T E : Type 0} (old new : LiveMachine) (result : Result T E) : Type 0 where
  pub program : new.program ≡ old.program
  pub empty : new.state.output ≡ []
  pub failed : new.failed ≡ is_error result

-- the machine made this number of steps, and exactly the output that it then holds is written. `told` and `tells` say
-- whether the feed and the outlet are known
pub record HasPrinted (told tells : Bool) (old new : LiveMachine) (left written written' : List ℕ) (limit steps : ℕ)
    : Type 0 where
  pub within : steps ≤ limit
  pub runs : told ≡ true → RunsOn IsPlain old.program (fed left old.state) steps (fed left new.state)
  pub text : told ≡ true → tells ≡ true → written' ≡ written ++ new.state.output

-- the run comes to a state with this output within the limit
pub record MayLeave (program : Program) (s : State) (limit : ℕ) (output : List ℕ) : Type 0 where
  pub state : State
  pub reaches : Reaches program s limit state
  pub output_is : state.output ≡ output
