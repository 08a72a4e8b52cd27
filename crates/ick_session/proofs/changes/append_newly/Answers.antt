use Rattle.std.proofs.Common.{◌≡◌, false, ◌∙◌}
use Rattle.ick_machine.specs.StateView.{present_state}
use Rattle.ick_inspect.proofs.AddLaws.{same, then}
use Rattle.ick_session.proofs.ChangeLaws.{newly_is}
use Rattle.ick_session.proofs.changes.append_newly.Goals as goal

pub returns-then-not-is_abstained_from : goal.returns-then-not-is_abstained_from
returns-then-not-is_abstained_from c =
    let no : (present_state c.args.before.now).abstained c.args.statement ≡ false = cc in
    same (newly_is c.args.word.now (present_state c.args.before.now) (present_state c.args.after.now) c.args.statement
    c.from.result (c.is_abstained_from.ensures ∙ c.if-is_abstained_from.true) no c.from.ensures)
    (then (then c.push.ensures c.push_decimal.ensures) c.push-then-not-is_abstained_from.ensures)
