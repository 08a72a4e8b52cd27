use Rattle.std.proofs.Common.{◌≡◌, ◌≤◌, take}
use Rattle.ick_code.specs.Compiled.{code_slots}
use Rattle.ick_code.specs.Counts.{count_after}
use Rattle.ick_inspect.specs.Text.{Adds}
use Rattle.ick_stages.specs.Operations.{operations_from}
use Rattle.ick_stages.proofs.operation.append_operations.Given as goal

abbrev pub invariant-loop-op : goal.invariant-loop-op
invariant-loop-op l = record {
  number : l.number ≡ l.op-index;
  few : l.depth ≤ l.op-index;
  depth : l.depth ≡ count_after (take l.op-index l.ops) 0;
  added : Adds l.fn.text l.text (operations_from (code_slots l.code) 0 0 (take l.op-index l.ops));
}
