use Rattle.std.proofs.Common.{ap}
use Rattle.std.specs.Prelude.{decimal}
use Rattle.ick_inspect.proofs.AddLaws.{same, then}
use Rattle.ick_stages.specs.Statements.{end_text}
use Rattle.ick_stages.proofs.statement.append_end.Goals as goal

pub returns : goal.returns
unfolding end_text
returns c =
    then (then (then (then (then (same (ap decimal c.from.ensures) c.push_decimal.ensures) c.push.ensures)
    c.push-2.ensures) c.push-3.ensures) c.push_quoted.ensures) c.push-4.ensures
