use Rattle.ick_inspect.proofs.AddLaws.{then}
use Rattle.ick_stages.specs.Listed.{seen_text}
use Rattle.ick_stages.proofs.listed.append_seen.Goals as goal

pub returns : goal.returns
unfolding seen_text
returns c = (
  c.in_ok-placed.placed,
  c.in_ok-placed.ensures,
  then (then c.append_line.ensures c.append_seen_tree.ensures) c.append_parts_of.ensures,
)
