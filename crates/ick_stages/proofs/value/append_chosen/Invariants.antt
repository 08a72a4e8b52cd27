use Rattle.std.specs.List.{flat_map, range_with_len}
use Rattle.ick_inspect.specs.Text.{Adds}
use Rattle.ick_stages.specs.Values.{chosen_entry}
use Rattle.ick_stages.proofs.value.append_chosen.Given as goal

abbrev pub invariant-loop-at : goal.invariant-loop-at
invariant-loop-at l = Adds l.fn.text l.text (flat_map (chosen_entry l.table l.mask) (range_with_len 0 l.at))
