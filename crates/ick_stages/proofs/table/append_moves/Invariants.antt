use Rattle.std.proofs.Common.{◌≡◌, ◌++◌}
use Rattle.std.specs.Prelude.{codes}
use Rattle.ick_inspect.specs.Text.{Adds}
use Rattle.ick_stages.proofs.PairLaws.{has_some, pairs, pairs_text}
use Rattle.ick_stages.proofs.table.append_moves.Given as goal

abbrev pub invariant-loop-pair : goal.invariant-loop-pair
invariant-loop-pair l = record {
  added : Adds l.fn.text l.text (codes "[" ++ pairs_text l.table l.pair);
  some : l.some ≡ has_some (pairs l.table l.pair);
}
