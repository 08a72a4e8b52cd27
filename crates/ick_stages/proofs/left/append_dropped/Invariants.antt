use Rattle.std.proofs.Common.{take}
use Rattle.ick_inspect.specs.Text.{Adds}
use Rattle.ick_stages.specs.Left.{dropped_text}
use Rattle.ick_stages.specs.Registers.{names_of}
use Rattle.ick_stages.specs.Steps.{made_of}
use Rattle.ick_stages.proofs.left.append_dropped.Given as goal

abbrev pub invariant-loop-at : goal.invariant-loop-at
invariant-loop-at l =
    Adds l.fn.text l.text (dropped_text (names_of l.registers) l.draft.instructions.items (made_of l.makers).first
    (take l.at-index l.dropped))
