-- What contracts see of a machine that takes its input from a feed.
use Rattle.std.specs.Prelude.{ℕ, Bool, List, [], if◌then◌else◌}
use Rattle.ick_code.specs.meaning.State.{State}
use Rattle.ick_code.specs.meaning.Move.{ask}
use Rattle.ick_machine.specs.declared.live.Live.{Live}
use Rattle.ick_machine.specs.declared.asking.LiveAsk.{LiveAsk}
use Rattle.ick_machine.specs.declared.asking.LiveAsk.TheVariants.{Failed}
use Rattle.ick_machine.specs.LiveAsk.{live_asked}
use Rattle.ick_machine.specs.RunIn.{fed_state, program_of}
use Rattle.ick_backtrack.specs.Machine.{Program}
use Rattle.ick_machine.specs.Message.{asked_message}

-- the state is without its input, which the feed has; its output is what was written since it was last cleared
pub record LiveMachine : Type 0 where
  pub program : Program
  pub state : State
  pub failed : Bool

unfoldable pub seen : Live → LiveMachine
seen live = record {
  program = program_of live.lowered;
  state = fed_state live.lowered live.line.items [] live.memory live.end;
  failed = live.failed;
}

-- a state with this input
abbrev pub fed : List ℕ → State → State
fed input s = record s { input = input }

-- a state whose output has left
abbrev pub cleared : State → State
cleared s = record s { output = [] }

-- what is asked, unless the machine has failed
abbrev pub live_ask : LiveMachine → LiveAsk
live_ask live = if live.failed then Failed else live_asked (ask live.program live.state)

-- the message of the fault that a run has ended by, or nothing
abbrev pub fault_message : LiveMachine → List ℕ
fault_message live = asked_message (ask live.program live.state)
