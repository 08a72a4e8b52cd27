use Rattle.ick_inspect.proofs.AddLaws.{then}
use Rattle.ick_stages.specs.Parts.{mark_line}
use Rattle.ick_stages.proofs.parts.append_other.Goals as goal

pub returns : goal.returns
unfolding mark_line
returns c = then (then (then c.push.ensures c.append_bytes.ensures) c.append_word.ensures) c.push-2.ensures
