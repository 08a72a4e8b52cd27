use Rattle.std.proofs.Common.{ap, sym}
use Rattle.ick_backtrack.specs.Asked.{finish_of}
use Rattle.ick_backtrack.specs.declared.asking.End.{End}
use Rattle.ick_machine.specs.StateView.{present_program, present_state}
use Rattle.ick_session.specs.Shown.{over_text}
use Rattle.ick_inspect.proofs.AddLaws.{same, then}
use Rattle.ick_session.proofs.shown.append_over.Goals as goal

pub returns-in-Fault : goal.returns-in-Fault
returns-in-Fault c =
    let text = λ (e : End). over_text (present_program c.args.present.now) c.args.positions.now (finish_of e)
    (present_state c.args.present.now) in
    same (ap text (sym c.in-Fault.is))
    (then (then (then (then (then c.push-in-Fault.ensures c.push_message.ensures) c.push-in-Fault-2.ensures)
    c.append_met.ensures) c.push-in-Fault-3.ensures) c.append_stack.ensures)
