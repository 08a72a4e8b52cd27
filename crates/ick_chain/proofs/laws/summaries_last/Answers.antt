use Rattle.ick_chain.proofs.GreaterLimits.{are_lasting}
use Rattle.ick_chain.proofs.laws.summaries_last.Goals as goal

pub returns : goal.returns
returns c = are_lasting
