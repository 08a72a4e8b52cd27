use Rattle.ick_machine.specs.StateView.{present_program}
use Rattle.ick_inspect.proofs.AddLaws.{then}
use Rattle.ick_session.proofs.shown.append_set.Goals as goal

pub returns : goal.returns
unfolding present_program
returns c = then (then c.push.ensures c.append_statement.ensures) c.push-2.ensures
