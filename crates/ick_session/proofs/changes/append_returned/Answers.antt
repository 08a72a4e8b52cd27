use Rattle.ick_machine.specs.StateView.{present_state}
use Rattle.ick_inspect.proofs.AddLaws.{nothing, same, then}
use Rattle.ick_session.proofs.ChangeLaws.{none_returned, returned_is}
use Rattle.ick_session.proofs.changes.append_returned.Goals as goal

pub returns-then-ne : goal.returns-then-ne
returns-then-ne c =
    same (returned_is (present_state c.args.before.now) (present_state c.args.after.now)
    c.return_addresses-old.result.now c.return_addresses-new.result.now c.ne.result
    c.return_addresses-old.ensures c.return_addresses-new.ensures c.ne.ensures c.if-ne.true)
    (then (then c.append_moved.ensures c.push.ensures) c.append_stack.ensures)

pub returns-else-ne : goal.returns-else-ne
returns-else-ne c =
    same (none_returned (present_state c.args.before.now) (present_state c.args.after.now)
    c.return_addresses-old.result.now c.return_addresses-new.result.now c.ne.result
    c.return_addresses-old.ensures c.return_addresses-new.ensures c.ne.ensures c.if-ne.false) (nothing c.args.out.now)
