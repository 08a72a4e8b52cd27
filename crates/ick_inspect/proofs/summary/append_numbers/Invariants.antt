use Rattle.std.proofs.Common.{◌≡◌}
use Rattle.std.specs.Prelude.{codes, filter}
use Rattle.std.specs.List.{range_with_len}
use Rattle.ick_machine.specs.StateView.{present_state}
use Rattle.ick_inspect.specs.Text.{Adds, numbers_text}
use Rattle.ick_inspect.proofs.TextLemmas.{are_none}
use Rattle.ick_inspect.proofs.summary.append_numbers.Given as goal

abbrev pub invariant-loop-index : goal.invariant-loop-index
invariant-loop-index l =
    let found = filter (present_state l.present).abstained (range_with_len 1 l.index) in
    record { adds : Adds l.fn.text l.text (numbers_text (codes " ") found); none : l.none ≡ are_none found }
