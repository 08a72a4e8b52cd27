use Rattle.std.proofs.Common.{ap}
use Rattle.std.specs.Prelude.{codes}
use Rattle.ick_inspect.proofs.AddLaws.{same, then}
use Rattle.ick_places.specs.Heads.{span}
use Rattle.ick_stages.specs.Parts.{head_line, head_text}
use Rattle.ick_stages.proofs.parts.append_head.Goals as goal

pub returns : goal.returns
unfolding head_text
returns c =
    then (then (then (then c.append_head_part_if.ensures c.append_head_part.ensures) c.append_head_part_if-2.ensures)
    c.append_head_part_if-3.ensures)
    (same (ap (λ to. head_line c.args.start (span c.args.head.now.begin to) (codes " body\n")) c.max.ensures)
    c.append_head_part-2.ensures)
