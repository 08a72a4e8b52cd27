use Rattle.ick_stages.specs.Instructions.{instruction_text}
use Rattle.ick_inspect.proofs.AddLaws.{then}
use Rattle.ick_stages.proofs.instruction.append_instruction.Goals as goal

pub returns : goal.returns
unfolding instruction_text
returns c =
    rw (← c.word_of.ensures, ← c.format-format.ensures) (then (then (then (then c.append_target.ensures
    c.push.ensures) c.append_field.ensures) c.append_field-2.ensures) c.append_field-3.ensures)
