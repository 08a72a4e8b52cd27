use Rattle.std.proofs.Common.{◌++◌, ◌∙◌, ap, codes}
use Rattle.ick_code.specs.meaning.State.{State}
use Rattle.ick_inspect.specs.Names.{variable_text}
use Rattle.ick_inspect.proofs.AddLaws.{same, then}
use Rattle.ick_session.proofs.session.Session.append_name.Goals as goal

pub returns : goal.returns
returns c =
    same (ap (λ (s : State). variable_text s c.args.name ++ codes "\n")
    (c.present.ensures.state ∙ c.machine.ensures.state))
    (then c.append_variable.ensures c.push.ensures)
