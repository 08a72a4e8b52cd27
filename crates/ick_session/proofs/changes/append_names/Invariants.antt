use Rattle.std.proofs.Common.{take}
use Rattle.ick_code.specs.Compiled.{code_slots}
use Rattle.ick_machine.specs.StateView.{present_state}
use Rattle.ick_inspect.specs.Text.{Adds}
use Rattle.ick_session.specs.Changes.{names_text}
use Rattle.ick_session.proofs.changes.append_names.Given as goal

abbrev pub invariant-loop-at : goal.invariant-loop-at
invariant-loop-at l =
    Adds l.fn.out l.out
    (names_text (code_slots l.code) (take l.at l.ops) (present_state l.before) (present_state l.after))
