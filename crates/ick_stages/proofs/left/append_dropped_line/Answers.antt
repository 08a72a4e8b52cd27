use Rattle.std.proofs.Common.{ap}
use Rattle.std.specs.Prelude.{decimal}
use Rattle.ick_inspect.proofs.AddLaws.{same, then}
use Rattle.ick_stages.specs.Left.{dropped_line}
use Rattle.ick_stages.proofs.left.append_dropped_line.Goals as goal

pub returns : goal.returns
unfolding dropped_line
returns c =
    then (then (then (then c.push.ensures (same (ap decimal c.from.ensures) c.push_decimal.ensures)) c.push-2.ensures)
    c.append_instruction.ensures) c.push-3.ensures
