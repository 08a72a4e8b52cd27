use Rattle.std.proofs.Common.{◌-◌}
use Rattle.ick_stages.specs.Traces.{over_text, spot_in}
use Rattle.ick_stages.proofs.TraceLaws.{AddsFront}
use Rattle.ick_stages.proofs.trace.append_over.Given as goal

abbrev pub invariant-over : goal.invariant-over
invariant-over l = AddsFront (over_text l.lowered.parts l.fixed (l.steps - l.fn.place.steps) (spot_in l.fn.place))
    (over_text l.lowered.parts l.fixed (l.steps - l.place.steps) (spot_in l.place)) l.fn.text l.text

abbrev pub decreases-over : goal.decreases-over
decreases-over l = l.steps - l.place.steps
