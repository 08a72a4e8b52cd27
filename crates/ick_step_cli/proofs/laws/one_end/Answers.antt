use Rattle.ick_step_cli.proofs.OneEnd.{same_end}
use Rattle.ick_step_cli.proofs.laws.one_end.Goals as goal

pub returns : goal.returns
returns c = same_end
