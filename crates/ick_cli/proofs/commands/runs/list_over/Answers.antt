use Rattle.ick_cli.proofs.Listed.{answer_from}
use Rattle.ick_cli.proofs.commands.runs.list_over.Goals as goal

pub returns-in-Ok-clause-answer : goal.returns-in-Ok-clause-answer
returns-in-Ok-clause-answer g c = λ told answer is.
    c.list_runs.ensures.answer told answer
    (answer_from _ _ c.args.limit c.args.count c.args.from.now answer c.in-Ok.ensures is)
