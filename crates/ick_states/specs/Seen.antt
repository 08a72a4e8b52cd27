-- Defines what contracts see of a kept state.
use Rattle.std.specs.Prelude.{ℕ, Option, is_some, length}
use Rattle.ick_code.specs.meaning.State.{State, Ending}
use Rattle.ick_instructions.specs.declared.lowered.Lowered.{Lowered}
use Rattle.ick_engine.specs.declared.exit.RawEnd.{RawEnd}
use Rattle.ick_runtime.specs.declared.memory.Memory.{Memory}
use Rattle.ick_marks.specs.declared.saved.Saved.{Saved}
use Rattle.ick_runtime.specs.Memory.{view_in}
use Rattle.ick_marks.specs.Saved.{IsKept, saved_view}
use Rattle.ick_runtime.specs.Steady.{IsSteady}
use Rattle.ick_runtime.specs.Inputs.{Input, input_of}
use Rattle.ick_machine.specs.Run.{ending_of, run_state}
use Rattle.ick_machine.specs.RunIn.{program_of, state_in}
use Rattle.ick_outcomes.specs.Accounts.{Configuration}
use Rattle.ick_outcomes.specs.Programs.{Program}
use Rattle.ick_states.specs.Hashed.{mix_bit, mix_saved}
use Rattle.ick_states.specs.declared.runs.KeptRun.{KeptRun}
use Rattle.ick_states.specs.declared.runs.StateSpace.{StateSpace}

-- a run can go on from a kept state
abbrev pub CanGoOnFrom : Lowered → Saved → Type 0
CanGoOnFrom lowered saved = IsKept lowered.code.now lowered.parts saved

-- any state of the program can be put into a memory
abbrev pub CanServe : Lowered → Memory → Type 0
CanServe lowered memory = IsSteady lowered.code.now lowered.parts (view_in memory)

-- the state that was kept and ended so
abbrev pub kept_state : Lowered → Input → Saved → Option RawEnd → State
kept_state lowered input saved end = run_state lowered.code.now lowered.parts input (saved_view saved) end

-- the state that a memory represents, over the text of a program
abbrev pub present_state : StateSpace → Memory → Option RawEnd → State
present_state runs memory end = state_in runs.lowered (input_of runs.input.now) memory end

-- the program, and whether its output is left out
abbrev pub text_of : StateSpace → Program
text_of runs = record { statements = program_of runs.lowered; silent = runs.silent }

-- the program, and the state that was kept
abbrev pub seen_of : StateSpace → KeptRun → Configuration
seen_of runs run = record {
  program = text_of runs;
  state = kept_state runs.lowered (input_of runs.input.now) run.saved run.end;
}

-- how a run ended, if it did
abbrev pub ending_in : StateSpace → Option RawEnd → Option Ending
ending_in runs end = ending_of runs.lowered.code.now (input_of runs.input.now) end

-- the number by which a state is looked up
abbrev pub key_of : StateSpace → KeptRun → ℕ
key_of runs run = mix_bit (mix_saved (length runs.input.now) run.saved) (is_some run.end)
