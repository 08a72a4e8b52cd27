use Rattle.ick_inspect.specs.Summary.{counts_text}
use Rattle.ick_inspect.proofs.AddLaws.{then}
use Rattle.ick_inspect.proofs.summary.append_counts.Goals as goal

pub returns : goal.returns
unfolding counts_text
returns c =
    rw (c.input_left.ensures, c.output.ensures) (then (then (then (then c.push.ensures c.push_decimal.ensures)
    c.push-2.ensures) c.push_decimal-2.ensures) c.push-3.ensures)
