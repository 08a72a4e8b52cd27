use Rattle.ick_cli.proofs.OneAnswer.{same_answer, tool_answer}
use Rattle.ick_cli.proofs.laws.one_answer.Goals as goal

pub returns : goal.returns
returns c = λ task source input.
    let found = tool_answer task source input in
    (found.0, found.1, λ other is. same_answer task source input found.0 other found.1 is)
