-- The program and the state that the present parts of a machine represent.
use Rattle.ick_code.specs.meaning.State.{State}
use Rattle.ick_runtime.specs.Inputs.{input_of}
use Rattle.ick_backtrack.specs.Machine.{Program}
use Rattle.ick_machine.specs.declared.present.StateView.{StateView}
use Rattle.ick_machine.specs.RunIn.{program_of, state_in}

unfoldable pub present_program : StateView → Program
present_program present = program_of present.lowered.now

unfoldable pub present_state : StateView → State
present_state present = state_in present.lowered.now (input_of present.input.now) present.memory.now present.end
