use Rattle.ick_chain.proofs.RowLimits.{are_near}
use Rattle.ick_chain.proofs.laws.rows_are_near.Goals as goal

pub returns : goal.returns
returns c = are_near
