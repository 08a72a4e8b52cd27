use Rattle.std.proofs.Common.{sym}
use Rattle.ick_inspect.specs.Summary.{end_text}
use Rattle.ick_machine.specs.StateView.{present_state}
use Rattle.ick_inspect.proofs.AddLaws.{nothing, same, then}
use Rattle.ick_inspect.proofs.TextLemmas.{end_faulted, end_gave_up}
use Rattle.ick_inspect.proofs.summary.append_end_line.Goals as goal

pub returns-in-GiveUp : goal.returns-in-GiveUp
unfolding present_state
returns-in-GiveUp c =
    same (sym (end_gave_up (present_state c.args.present.now).end (rw c.in-Some.is c.in-GiveUp.ensures)))
    c.push.ensures

pub returns-in-Fault : goal.returns-in-Fault
unfolding present_state
returns-in-Fault c =
    same (sym (end_faulted (present_state c.args.present.now).end c.in-Fault.fault (rw c.in-Some.is c.in-Fault.ensures)))
    (then c.push-in-Fault.ensures c.push_message.ensures)

pub returns-in-None : goal.returns-in-None
unfolding present_state end_text
returns-in-None c = rw c.in-None.is (nothing c.args.text.now)
