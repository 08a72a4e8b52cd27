use Rattle.std.proofs.Common.{◌∙◌, sym}
use Rattle.ick_machine.specs.StateView.{present_program, present_state}
use Rattle.ick_inspect.proofs.AddLaws.{same, then}
use Rattle.ick_inspect.proofs.TextLemmas.{state_is}
use Rattle.ick_inspect.proofs.summary.append_state.Goals as goal

pub returns : goal.returns
unfolding present_program
returns c =
    same (state_is (present_program c.args.present.now) (present_state c.args.present.now) c.from.result c.from-2.result
    (c.place.ensures ∙ sym c.from.ensures) (c.from-2.ensures ∙ c.count.ensures))
    (then (then (then (then (then (then (then (then (then (then c.push.ensures c.push_decimal.ensures)
    c.push-2.ensures) c.push_decimal-2.ensures) c.push-3.ensures) c.append_stack.ensures) c.append_scalars.ensures)
    c.append_arrays.ensures) c.append_abstained.ensures) c.append_counts.ensures) c.append_end_line.ensures)
