use Rattle.std.proofs.Common.{◌∙◌, ◌++◌, ap, sym}
use Rattle.std.specs.Prelude.{codes}
use Rattle.ick_inspect.proofs.AddLaws.{same}
use Rattle.ick_stages.specs.Bodies.{body_text, gerund_text, summed_text}
use Rattle.ick_syntax.specs.BodyTree.{body_tree_of}
use Rattle.ick_stages.proofs.body.append_body.Goals as goal

pub returns-in-AbstainKinds : goal.returns-in-AbstainKinds
returns-in-AbstainKinds c =
    same (ap (λ gerunds. codes "ABSTAIN FROM " ++ summed_text gerund_text gerunds) c.deref-in-AbstainKinds.ensures.value
    ∙ sym (ap (λ b. body_text (body_tree_of b)) c.in-AbstainKinds.is)) c.append_gerunds.ensures
