use Rattle.ick_inspect.proofs.AddLaws.{then}
use Rattle.ick_stages.specs.Values.{field_text}
use Rattle.ick_stages.proofs.value.append_field.Goals as goal

pub returns : goal.returns
unfolding field_text
returns c =
    then (then (then c.append_half.ensures c.append_register.ensures) c.append_rotation.ensures) c.append_mask.ensures
