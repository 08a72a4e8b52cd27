use Rattle.std.proofs.Common.{◌++◌, ◌∙◌, ap, codes}
use Rattle.std.specs.Prelude.{decimal}
use Rattle.ick_machine.specs.StateView.{present_program}
use Rattle.ick_inspect.proofs.AddLaws.{same, then}
use Rattle.ick_session.proofs.shown.append_last.Goals as goal

pub returns : goal.returns
unfolding present_program
returns c =
    same (ap (λ n. codes "the last statement is " ++ decimal n ++ codes "\n") (c.from.ensures ∙ c.count.ensures))
    (then (then c.push.ensures c.push_decimal.ensures) c.push-2.ensures)
