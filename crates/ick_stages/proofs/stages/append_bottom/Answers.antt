use Rattle.ick_inspect.proofs.AddLaws.{then}
use Rattle.ick_stages.proofs.stages.append_bottom.Goals as goal

pub returns : goal.returns
returns c = then c.append_dropped_lines.ensures c.append_instruction_lines.ensures
