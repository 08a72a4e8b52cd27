use Rattle.std.specs.List.{flat_map, range_with_len}
use Rattle.ick_inspect.specs.Text.{Adds}
use Rattle.ick_stages.specs.Left.{line_at}
use Rattle.ick_stages.specs.Registers.{names_of}
use Rattle.ick_stages.specs.Steps.{made_of}
use Rattle.ick_stages.proofs.left.append_instructions.Given as goal

abbrev pub invariant-loop-at : goal.invariant-loop-at
invariant-loop-at l =
    Adds l.fn.text l.text
    (flat_map (line_at (names_of l.registers) (made_of l.makers) l.left l.kept) (range_with_len 0 l.at))
