use Rattle.std.proofs.Common.{ap}
use Rattle.ick_inspect.proofs.AddLaws.{same, then}
use Rattle.ick_stages.specs.Values.{facts_text, ones_text}
use Rattle.ick_stages.proofs.value.append_facts.Goals as goal

pub returns : goal.returns
unfolding facts_text
returns c =
    then (then (then c.push.ensures c.append_width.ensures)
    (same (ap (ones_text c.args.facts.ones) c.all_ones.ensures) c.append_ones.ensures)) c.append_shape.ensures
