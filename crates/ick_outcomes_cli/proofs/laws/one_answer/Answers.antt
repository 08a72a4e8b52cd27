use Rattle.ick_outcomes_cli.proofs.OneAnswer.{same_answer}
use Rattle.ick_outcomes_cli.proofs.laws.one_answer.Goals as goal

pub returns : goal.returns
returns c = same_answer
