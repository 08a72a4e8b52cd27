use Rattle.std.proofs.Common.{sym, ◌++◌}
use Rattle.std.specs.Prelude.{codes}
use Rattle.ick_inspect.proofs.AddLaws.{nothing, pieces_taken, same, then}
use Rattle.ick_stages.specs.Registers.{names_of, register_text, registers_text}
use Rattle.ick_stages.proofs.registers.append_others.Goals as goal

pub loop-register-init : goal.loop-register-init
unfolding registers_text
loop-register-init c = nothing c.args.text.now

pub loop-register-preserved : goal.loop-register-preserved
unfolding registers_text
loop-register-preserved c =
    same (sym (pieces_taken (λ r. codes " " ++ register_text (names_of c.args.registers.now) r) c.args.others.now
    c.loop-register.register-index 0 c.loop-register-test.true))
    (then c.loop-register.invariant (then c.push.ensures c.append_register.ensures))
