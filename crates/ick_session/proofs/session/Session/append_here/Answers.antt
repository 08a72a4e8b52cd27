use Rattle.ick_session.specs.Session.{settings}
use Rattle.ick_step.specs.Histories.{history}
use Rattle.ick_inspect.proofs.AddLaws.{same, then}
use Rattle.ick_session.proofs.TravelLaws.{where_is}
use Rattle.ick_session.proofs.session.Session.append_here.Goals as goal

pub returns : goal.returns
returns c =
    same (where_is (settings c.args.self.now) c.args.positions.now (history c.args.self.now.history) _ c.steps.result _
    c.is_at_breakpoint.result c.left.result c.machine.ensures.program c.steps.ensures c.machine.ensures.state
    c.is_at_breakpoint.ensures c.left.ensures)
    (then (then c.append_here.ensures c.append_breakpoint.ensures) c.append_limit.ensures)
