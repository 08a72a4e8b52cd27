use Rattle.std.proofs.Common.{◌≡◌, ◌+◌, arith, sym}
use Rattle.ick_code.specs.Compiled.{code_slots}
use Rattle.ick_inspect.proofs.AddLaws.{same, then}
use Rattle.ick_stages.proofs.TextLaws.{depth_more, line_same, operations_more}
use Rattle.ick_stages.proofs.operation.append_operations.Goals as goal

pub loop-op-preserved : goal.loop-op-preserved
loop-op-preserved c =
    let at = c.loop-op.op-index in
    let before = c.loop-op.invariant in
    let number : c.loop-op.number + 1 ≡ at + 1 = omega (arith, before.number) in
    let depth = depth_more c.args.ops.now at _ c.loop-op-test.true before.depth c.popped.ensures c.pushed.ensures.count
    c.saturating_sub.ensures in
    record {
      number = number;
      few = omega (arith, before.few, c.saturating_sub.ensures, c.pushed.ensures.few);
      depth = depth;
      added = same (sym (operations_more (code_slots c.args.code.now) c.args.ops.now at _ c.loop-op-test.true))
          (then before.added (same (line_same _ _ number depth) c.append_line.ensures));
    }
