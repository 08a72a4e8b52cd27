use Rattle.ick_inspect.proofs.AddLaws.{nothing, same, then}
use Rattle.ick_session.proofs.ChangeLaws.{change_is, no_change}
use Rattle.ick_session.proofs.changes.append_change.Goals as goal

pub returns-then-changed : goal.returns-then-changed
returns-then-changed c =
    same (change_is c.args.changed c.args.statement c.from.result c.if-changed.true c.from.ensures)
    (then c.push.ensures c.push_decimal.ensures)

pub returns-else-changed : goal.returns-else-changed
returns-else-changed c =
    same (no_change c.args.changed c.args.statement c.if-changed.false) (nothing c.args.out.now)
