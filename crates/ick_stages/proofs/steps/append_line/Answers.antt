use Rattle.std.proofs.Common.{ap}
use Rattle.std.specs.Prelude.{decimal}
use Rattle.ick_inspect.proofs.AddLaws.{same, then}
use Rattle.ick_stages.specs.Steps.{rule_line}
use Rattle.ick_stages.proofs.steps.append_line.Goals as goal

pub returns : goal.returns
unfolding rule_line
returns c =
    then (then (then (then (then (then c.push.ensures (same (ap decimal c.from.ensures) c.push_decimal.ensures))
    c.push-2.ensures) c.append_rules.ensures) c.append_made.ensures) c.append_left.ensures) c.push-3.ensures
