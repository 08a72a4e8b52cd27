use Rattle.std.proofs.Common.{take}
use Rattle.ick_inspect.specs.Text.{Adds}
use Rattle.ick_stages.specs.Registers.{names_of, registers_text}
use Rattle.ick_stages.proofs.registers.append_others.Given as goal

abbrev pub invariant-loop-register : goal.invariant-loop-register
invariant-loop-register l =
    Adds l.fn.text l.text (registers_text (names_of l.registers) (take l.register-index l.others))
