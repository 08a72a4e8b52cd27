use Rattle.ick_inspect.proofs.AddLaws.{then}
use Rattle.ick_stages.specs.Left.{left_line}
use Rattle.ick_stages.proofs.left.append_left_line.Goals as goal

pub returns : goal.returns
unfolding left_line
returns c =
    then (then (then (then (then c.push.ensures c.push_decimal.ensures) c.append_makers.ensures) c.push-2.ensures)
    c.append_instruction.ensures) c.push-3.ensures
