use Rattle.std.proofs.Common.{ap, ◌∙◌, ◌-◌}
use Rattle.std.specs.Prelude.{decimal}
use Rattle.ick_inspect.proofs.AddLaws.{same, then}
use Rattle.ick_stages.specs.Parts.{stop_line}
use Rattle.ick_stages.proofs.parts.append_stop.Goals as goal

pub returns : goal.returns
unfolding stop_line
returns c =
    then (then (then (then c.push.ensures
    (same (ap decimal (c.saturating_sub.ensures ∙ ap (λ n. n - c.args.start) c.stopped_byte.ensures)) c.push_decimal.ensures))
    c.push-2.ensures) (same c.text.ensures c.push-3.ensures)) c.push-4.ensures
