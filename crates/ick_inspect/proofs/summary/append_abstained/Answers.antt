use Rattle.ick_inspect.specs.Summary.{abstained_text}
use Rattle.ick_inspect.proofs.AddLaws.{then}
use Rattle.ick_inspect.proofs.summary.append_abstained.Goals as goal

pub returns : goal.returns
unfolding abstained_text
returns c = then (then c.push.ensures c.append_numbers.ensures) c.push-2.ensures
