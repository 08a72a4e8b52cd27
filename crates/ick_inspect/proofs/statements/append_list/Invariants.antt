use Rattle.std.proofs.Common.{◌≤◌, ◌+◌, ◌-◌}
use Rattle.std.specs.Prelude.{max}
use Rattle.std.specs.List.{flat_map, range_with_len}
use Rattle.ick_machine.specs.StateView.{present_program}
use Rattle.ick_inspect.specs.Statements.{listed_text}
use Rattle.ick_inspect.specs.Text.{Adds}
use Rattle.ick_inspect.proofs.statements.append_list.Given as goal

abbrev pub invariant-loop-n : goal.invariant-loop-n
invariant-loop-n l = record {
  low : l.first ≤ l.n;
  high : l.n ≤ max l.first (l.last + 1);
  adds : Adds l.fn.text l.text (flat_map (listed_text (present_program l.present) l.positions l.place)
      (range_with_len l.first (l.n - l.first)));
}
