use Rattle.std.proofs.Common.{ap}
use Rattle.std.specs.Prelude.{decimal}
use Rattle.ick_inspect.proofs.AddLaws.{same, then}
use Rattle.ick_stages.specs.Statements.{front_text}
use Rattle.ick_stages.proofs.statement.append_front.Goals as goal

pub returns : goal.returns
unfolding front_text
returns c =
    then (then (then (then (same (ap decimal c.from.ensures) c.push_decimal.ensures) c.push.ensures)
    c.append_position.ensures) c.push-2.ensures) c.append_label.ensures
