use Rattle.ick_inspect.specs.Summary.{stack_text}
use Rattle.ick_inspect.proofs.AddLaws.{then}
use Rattle.ick_inspect.proofs.summary.append_stack.Goals as goal

pub returns : goal.returns
unfolding stack_text
returns c = rw c.return_addresses.ensures (then (then c.push.ensures c.append_returns.ensures) c.push-2.ensures)
