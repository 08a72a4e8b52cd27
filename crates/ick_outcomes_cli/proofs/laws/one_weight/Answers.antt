use Rattle.ick_outcomes_cli.proofs.OneWeight.{same_weights}
use Rattle.ick_outcomes_cli.proofs.laws.one_weight.Goals as goal

pub returns : goal.returns
returns c = same_weights
