use Rattle.std.proofs.Common.{ap, sym}
use Rattle.ick_inspect.proofs.AddLaws.{same, then}
use Rattle.ick_stages.specs.Registers.{names_of}
use Rattle.ick_stages.specs.Values.{width_text}
use Rattle.ick_stages.proofs.value.append_width.Goals as goal

pub returns-in-By : goal.returns-in-By
unfolding width_text
returns-in-By c =
    same (sym (ap (λ w. width_text (names_of c.args.registers.now) w) c.in-By.is))
    (then c.push-in-By.ensures c.append_register.ensures)
