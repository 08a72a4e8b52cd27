use Rattle.std.proofs.Common.{take}
use Rattle.ick_inspect.specs.Text.{Adds}
use Rattle.ick_stages.specs.Registers.{names_of}
use Rattle.ick_stages.specs.Steps.{others_text}
use Rattle.ick_stages.proofs.steps.append_others.Given as goal

abbrev pub invariant-loop-i : goal.invariant-loop-i
invariant-loop-i l = Adds l.fn.text l.text (others_text (names_of l.registers) (take l.i-index l.others))
