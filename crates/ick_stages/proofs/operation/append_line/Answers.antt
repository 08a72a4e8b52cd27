use Rattle.ick_inspect.proofs.AddLaws.{then}
use Rattle.ick_stages.specs.Operations.{operation_line}
use Rattle.ick_stages.proofs.operation.append_line.Goals as goal

pub returns : goal.returns
unfolding operation_line
returns c =
    then (then (then (then (then (then c.push.ensures c.push_decimal.ensures) c.push-2.ensures)
    c.push_decimal-2.ensures) c.push-3.ensures) c.append_operation.ensures) c.push-4.ensures
