use Rattle.std.proofs.Common.{ap}
use Rattle.std.specs.Prelude.{decimal}
use Rattle.ick_inspect.proofs.AddLaws.{same, then}
use Rattle.ick_stages.proofs.left.append_spaced.Goals as goal

pub returns : goal.returns
returns c = then c.push.ensures (same (ap decimal c.from.ensures) c.push_decimal.ensures)
