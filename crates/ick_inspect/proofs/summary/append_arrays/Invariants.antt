use Rattle.std.proofs.Common.{take}
use Rattle.ick_code.specs.Compiled.{code_slots}
use Rattle.ick_machine.specs.StateView.{present_state}
use Rattle.ick_inspect.specs.Summary.{variables_text}
use Rattle.ick_inspect.specs.Text.{Adds}
use Rattle.ick_inspect.proofs.summary.append_arrays.Given as goal

abbrev pub invariant-loop-slot : goal.invariant-loop-slot
invariant-loop-slot l =
    Adds l.fn.text l.text (variables_text (take l.slot (code_slots l.code).arrays) (present_state l.present))
