-- Describes the answer, the output and the input of a streamed run.
use Rattle.std.specs.Prelude.{◌≡◌, ℕ, ◌<◌, Bool, true, List, [], ◌++◌, take, Some, Result, Ok, Err}
use Rattle.ick_syntax.specs.declared.kinds.Kind.TheVariants.{WriteIn}
use Rattle.ick_code.specs.meaning.State.{State}
use Rattle.ick_code.specs.Laws.{kind_at}
use Rattle.ick_backtrack.specs.Machine.{Program}
use Rattle.ick_backtrack.specs.Asked.{Finish, finished, at_limit}
use Rattle.ick_machine.specs.LiveAsk.{end_kind_of}
use Rattle.ick_machine.specs.Message.{end_message}
use Rattle.ick_machine.specs.declared.asking.EndKind.{EndKind}
use Rattle.ick_machine.specs.declared.asking.EndKind.TheVariants.{Limit, Wants}
use Rattle.ick_explorer.specs.Runs.{Stop, ends, wants, Execution, run}
use Rattle.ick_explorer.specs.declared.errors.RunsError.{RunsError}
use Rattle.ick_explorer.specs.declared.errors.RunsError.TheVariants.{NoMemory, NoSuchRun, WorkFull, Failed}
use Rattle.ick_explorer.specs.declared.errors.RunsError.TheVariants.{BadCursor, Read}
use Rattle.ick_explorer.specs.declared.errors.RunsError.TheVariants.{Write}
use Rattle.ick_runs.specs.declared.streamed.Streamed.{Streamed}

-- how a run stops, without the subject of a fault
abbrev pub finish_kind : Finish → EndKind
finish_kind (finished ending) = end_kind_of ending
finish_kind at_limit = Limit

abbrev pub stop_kind : Stop → EndKind
stop_kind (ends finish) = finish_kind finish
stop_kind wants = Wants

-- the message of the fault that ended the run, or no bytes
abbrev pub finish_message : Finish → List ℕ
finish_message (finished ending) = end_message ending
finish_message at_limit = []

abbrev pub stop_message : Stop → List ℕ
stop_message (ends finish) = finish_message finish
stop_message wants = []

-- the answer is the run x with the choices c: all its output is written, and exactly its input is taken
pub record HasStreamed (told : Bool) (x : Execution) (c : List Bool) (written written' left : List ℕ)
    (answer : Streamed) : Type 0 where
  pub end : answer.end ≡ stop_kind x.stop
  pub message : answer.message.items ≡ stop_message x.stop
  pub steps : answer.steps ≡ x.steps
  pub choices : answer.choices.items ++ x.unused ≡ c
  pub input : left ≡ x.last.input
  pub output : told ≡ true → written' ≡ written ++ x.last.output

-- an answered run has streamed; after each refusal the written bytes are a prefix of the run's output
abbrev pub Streams : Bool → Execution → List Bool → List ℕ → List ℕ → List ℕ →
    Result Streamed RunsError → Type 0
Streams told x c written written' left (Ok answer) = HasStreamed told x c written written' left answer
Streams told x c written written' left (Err error) =
    (n : ℕ) × (told ≡ true → written' ≡ written ++ take n x.last.output)

-- after so many steps of the run with the choices c, a WRITE IN is the next statement of the run, and exactly the
-- output of these steps is written
pub record StopsAtInput (told : Bool) (program : Program) (s : State) (limit : ℕ) (c : List Bool)
    (written written' : List ℕ) : Type 0 where
  pub steps : ℕ
  pub within : steps < (run program s limit c).steps
  pub meets : kind_at program (run program s steps c).last ≡ Some WriteIn
  pub output : told ≡ true → written' ≡ written ++ (run program s steps c).last.output

-- the amount by which a call raises the source's count of failures
abbrev pub source_failures : {T : Type 0} → Result T RunsError → ℕ
source_failures (Ok _) = 0
source_failures (Err Read) = 1
source_failures (Err NoMemory) = 0
source_failures (Err NoSuchRun) = 0
source_failures (Err WorkFull) = 0
source_failures (Err Failed) = 0
source_failures (Err BadCursor) = 0
source_failures (Err Write) = 0
