use Rattle.std.proofs.Common.{ap}
use Rattle.std.specs.Prelude.{decimal}
use Rattle.ick_inspect.proofs.AddLaws.{same, then}
use Rattle.ick_stages.specs.Parts.{bytes_text}
use Rattle.ick_stages.proofs.parts.append_bytes.Goals as goal

pub returns : goal.returns
unfolding bytes_text
returns c =
    then (then (same (ap decimal c.saturating_sub.ensures) c.push_decimal.ensures) c.push.ensures)
    (same (ap decimal c.saturating_sub-2.ensures) c.push_decimal-2.ensures)
