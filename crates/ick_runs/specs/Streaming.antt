-- Describes the progress of a streamed run, for private contracts.
use Rattle.std.specs.Prelude.{◌≡◌, ℕ, ◌≤◌, Bool, true, List, ◌++◌, length, take, Result, Ok, Err}
use Rattle.ick_code.specs.meaning.State.{State}
use Rattle.ick_code.specs.Laws.{after_output}
use Rattle.ick_backtrack.specs.Machine.{Program}
use Rattle.ick_machine.specs.declared.asking.EndKind.{EndKind}
use Rattle.ick_explorer.specs.Paths.{Leads}
use Rattle.ick_explorer.specs.Runs.{Execution}
use Rattle.ick_runs.specs.Streams.{stop_kind, stop_message}
use Rattle.ick_explorer.specs.declared.errors.RunsError.{RunsError}

-- n steps of the run of c are made, and all its output is written but the output that the machine holds
pub record IsAlong (told : Bool) (p : Program) (s : State) (limit : ℕ) (c : List Bool) (now : State)
    (written written' : List ℕ) (n : ℕ) : Type 0 where
  pub sent : List ℕ
  pub within : n ≤ limit
  pub leads : (bound : ℕ) → n ≤ bound → Leads p s bound c (after_output sent now) n
  pub text : told ≡ true → written' ≡ written ++ sent

-- the choices taken so far are a prefix of c
pub record AreTaken (c taken : List Bool) : Type 0 where
  pub within : length taken ≤ length c
  pub same : taken ≡ take (length taken) c

-- the run x with the choices c stopped after these taken choices: all its output is written, and exactly its input is
-- taken
pub record HasStopped (told : Bool) (x : Execution) (c taken : List Bool)
    (message written written' left : List ℕ) (kind : EndKind) (steps : ℕ) : Type 0 where
  pub end : kind ≡ stop_kind x.stop
  pub message_is : message ≡ stop_message x.stop
  pub steps_are : steps ≡ x.steps
  pub choices : taken ++ x.unused ≡ c
  pub input : left ≡ x.last.input
  pub output : told ≡ true → written' ≡ written ++ x.last.output

-- after a refusal the written bytes are a prefix of the output of the run x
abbrev pub IsCutOff : Bool → Execution → List ℕ → List ℕ → Type 0
IsCutOff told x written written' = (n : ℕ) × (told ≡ true → written' ≡ written ++ take n x.last.output)

-- the facts that hold after each answer
abbrev pub Stops : Bool → Execution → List Bool → List Bool →
    List ℕ → List ℕ → List ℕ → List ℕ → Result (EndKind × ℕ) RunsError → Type 0
Stops told x c taken message written written' left (Ok stopped) =
    HasStopped told x c taken message written written' left stopped.0 stopped.1
Stops told x c taken message written written' left (Err error) = IsCutOff told x written written'
