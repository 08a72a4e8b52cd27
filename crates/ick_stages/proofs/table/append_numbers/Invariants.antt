use Rattle.std.proofs.Common.{take}
use Rattle.std.specs.Prelude.{codes}
use Rattle.ick_inspect.specs.Text.{Adds, numbers_text}
use Rattle.ick_stages.proofs.table.append_numbers.Given as goal

abbrev pub invariant-loop-number : goal.invariant-loop-number
invariant-loop-number l = Adds l.fn.text l.text (numbers_text (codes " ") (take l.number-index l.numbers))
