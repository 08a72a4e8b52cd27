use Rattle.ick_inspect.proofs.AddLaws.{then}
use Rattle.ick_stages.specs.Parts.{part_line}
use Rattle.ick_stages.proofs.parts.append_part.Goals as goal

pub returns : goal.returns
unfolding part_line
returns c =
    then (then (then (then (then c.push.ensures c.push_decimal.ensures) c.push-2.ensures) c.append_bytes.ensures)
    c.append_word_if.ensures) c.push-3.ensures
