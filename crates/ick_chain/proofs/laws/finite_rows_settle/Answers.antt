use Rattle.ick_chain.proofs.AllSettling.{are_all_settled, are_settled}
use Rattle.ick_chain.proofs.laws.finite_rows_settle.Goals as goal

pub returns-clause-rows : goal.returns-clause-rows
returns-clause-rows c = are_settled

pub returns-clause-all : goal.returns-clause-all
returns-clause-all c = are_all_settled
