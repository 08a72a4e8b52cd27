use Rattle.ick_inspect.proofs.AddLaws.{then}
use Rattle.ick_stages.specs.Instructions.{half_text}
use Rattle.ick_stages.proofs.instruction.append_half.Goals as goal

pub returns : goal.returns
unfolding half_text
returns c =
    then (then (then c.append_digit.ensures c.append_digit-2.ensures) c.append_digit-3.ensures) c.append_digit-4.ensures
