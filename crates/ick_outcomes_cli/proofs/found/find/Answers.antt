use Rattle.ick_chain.proofs.Progressing.{shows_none}
use Rattle.ick_outcomes_cli.proofs.found.find.Goals as goal

pub returns-in-Some-clause-shown : goal.returns-in-Some-clause-shown
returns-in-Some-clause-shown g c = shows_none c.args.errors.now
