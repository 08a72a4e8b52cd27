use Rattle.std.proofs.Common.{arith}
use Rattle.std.proofs.lemmas.Grind.{common_steps}
use Rattle.ick_machine.specs.StateView.{present_state}
use Rattle.ick_inspect.proofs.AddLaws.{same, then}
use Rattle.ick_inspect.proofs.TextLemmas.{array_none, array_some}
use Rattle.ick_inspect.proofs.names.append_array.Goals as goal

pub returns-then-not-is_empty : goal.returns-then-not-is_empty
returns-then-not-is_empty c =
    same (array_some ((present_state c.args.present.now).arrays c.args.name) c.dimensions-dimensions.result.now
    c.elements.result.now c.dimensions-dimensions.ensures c.elements.ensures (grind (arith, common_steps)))
    (then c.append_dimensions.ensures (then c.push.ensures c.push_numbers.ensures))

pub returns-else-not-is_empty : goal.returns-else-not-is_empty
returns-else-not-is_empty c =
    same (array_none ((present_state c.args.present.now).arrays c.args.name) c.dimensions-dimensions.result.now
    c.dimensions-dimensions.ensures (grind (arith, common_steps)))
    c.append_dimensions.ensures
