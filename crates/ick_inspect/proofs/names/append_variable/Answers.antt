use Rattle.ick_inspect.specs.Names.{variable_text}
use Rattle.ick_inspect.proofs.AddLaws.{then}
use Rattle.ick_inspect.proofs.names.append_variable.Goals as goal

pub returns : goal.returns
unfolding variable_text
returns c =
    rw (c.is_ignored.ensures, ← c.stashed.ensures) (then (then (then c.append_name.ensures c.push.ensures)
    c.append_value.ensures) c.append_marks.ensures)
