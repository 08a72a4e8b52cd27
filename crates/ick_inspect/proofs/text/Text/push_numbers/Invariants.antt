use Rattle.std.proofs.Common.{take}
use Rattle.ick_inspect.specs.Text.{Adds, numbers_text}
use Rattle.ick_inspect.proofs.text.Text.push_numbers.Given as goal

abbrev pub invariant-loop-number : goal.invariant-loop-number
invariant-loop-number l = Adds l.fn.self l.self (numbers_text l.before (take l.number-index l.numbers))
