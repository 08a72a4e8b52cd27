use Rattle.std.proofs.Common.{rules}
use Rattle.ick_machine.proofs.StepLemmas.{on_the_way, at_end}
use Rattle.ick_machine.proofs.steps.steps_of_exit.Goals as goal

pub returns-in-Limit-clause-ok : goal.returns-in-Limit-clause-ok
returns-in-Limit-clause-ok c = search (rules, on_the_way)

pub returns-in-Ended-clause-ok : goal.returns-in-Ended-clause-ok
returns-in-Ended-clause-ok c = search (rules, at_end)
