use Rattle.ick_inspect.proofs.AddLaws.{then}
use Rattle.ick_stages.specs.Stages.{top_text}
use Rattle.ick_stages.proofs.stages.append_top.Goals as goal

pub returns : goal.returns
unfolding top_text
returns c =
    then (then (then c.append_line.ensures c.append_tree_line.ensures) c.append_operation_lines.ensures)
    c.append_parts_of.ensures
