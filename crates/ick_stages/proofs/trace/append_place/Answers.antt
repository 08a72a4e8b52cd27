use Rattle.std.proofs.Common.{ap}
use Rattle.ick_inspect.proofs.AddLaws.{same, then}
use Rattle.ick_stages.specs.Traces.{pending_text, spot_text}
use Rattle.ick_stages.proofs.trace.append_place.Goals as goal

pub returns : goal.returns
unfolding spot_text
returns c =
    then (then (then (then (then c.push.ensures c.push_decimal.ensures) c.push-2.ensures) c.push_decimal-2.ensures)
    (same (ap pending_text c.as_slice.ensures.value) c.append_pending.ensures)) c.push-3.ensures
