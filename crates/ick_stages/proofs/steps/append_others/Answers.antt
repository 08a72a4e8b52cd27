use Rattle.std.proofs.Common.{sym, ◌++◌}
use Rattle.std.specs.Prelude.{codes}
use Rattle.ick_inspect.proofs.AddLaws.{pieces_taken, same, then}
use Rattle.ick_stages.specs.Instructions.{instruction_text}
use Rattle.ick_stages.specs.Registers.{names_of}
use Rattle.ick_stages.proofs.steps.append_others.Goals as goal

pub loop-i-preserved : goal.loop-i-preserved
loop-i-preserved c =
    same (sym (pieces_taken (λ i. codes " | " ++ instruction_text (names_of c.args.registers.now) i) c.args.others.now
    c.loop-i.i-index _ c.loop-i-test.true))
    (then c.loop-i.invariant (then c.push.ensures c.append_instruction.ensures))
