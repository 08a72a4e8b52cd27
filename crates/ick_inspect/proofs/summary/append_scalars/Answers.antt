use Rattle.std.proofs.Common.{ap, arith, sym}
use Rattle.ick_code.specs.Compiled.{code_slots}
use Rattle.ick_code.specs.Names.{slots_of}
use Rattle.ick_inspect.specs.Summary.{variables_text}
use Rattle.ick_machine.specs.StateView.{present_program, present_state}
use Rattle.ick_inspect.proofs.AddLaws.{nothing, same, then}
use Rattle.ick_inspect.proofs.TextLemmas.{all_variables, variables_more}
use Rattle.ick_inspect.proofs.summary.append_scalars.Goals as goal

pub loop-slot-init : goal.loop-slot-init
unfolding variables_text
loop-slot-init c = nothing c.args.text.now

pub loop-slot-preserved : goal.loop-slot-preserved
loop-slot-preserved c =
    same (sym (variables_more (code_slots c.args.present.now.lowered.now.code.now).scalars c.loop-slot.slot c.scalar.result
    (present_state c.args.present.now) c.scalar.ensures))
    (then c.loop-slot.invariant (then c.append_variable.ensures c.push.ensures))

pub returns : goal.returns
unfolding present_program
returns c =
    let slots = code_slots c.args.present.now.lowered.now.code.now in
    same (all_variables slots.scalars (slots_of (present_program c.args.present.now)).scalars
    (present_state c.args.present.now)
    c.loop-slot.slot (omega arith) (ap (λ s. s.scalars) c.law.ensures.slots_are))
    c.loop-slot.invariant
