use Rattle.std.proofs.Common.{◌∙◌, ap}
use Rattle.ick_inspect.proofs.AddLaws.{same, then}
use Rattle.ick_stages.specs.Instructions.{instruction_text}
use Rattle.ick_stages.specs.Registers.{lowered_names}
use Rattle.ick_stages.specs.Traces.{made_line, spot_text}
use Rattle.ick_traces.specs.Traces.{own_of}
use Rattle.ick_stages.proofs.trace.append_made.Goals as goal

pub returns : goal.returns
unfolding made_line
returns c =
    then (then (same (ap spot_text c.requires) c.append_place.ensures)
    (same (ap (λ n. instruction_text n c.own_of-own.result) c.of_lowered-registers.ensures
    ∙ ap (instruction_text (lowered_names c.args.lowered.now))
    (c.own_of-own.ensures ∙ ap (λ e. own_of e c.args.i) c.as_slice.ensures.value))
    c.append_instruction.ensures)) c.push.ensures
