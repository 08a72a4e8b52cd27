use Rattle.std.proofs.Common.{◌++◌, ◌∙◌, ap, codes, sym}
use Rattle.ick_inspect.proofs.AddLaws.{same, then}
use Rattle.ick_session.specs.Lines.{nearest_text}
use Rattle.ick_session.proofs.lines.append_nearest.Goals as goal

pub returns-in-Some : goal.returns-in-Some
returns-in-Some c =
    same (ap (λ w. codes "unknown command; did you mean " ++ w ++ codes "? help lists all commands\n") c.word.ensures
    ∙ ap nearest_text (sym c.in-Some.is ∙ c.nearest_verb.ensures))
    (then (then c.push.ensures c.push-in-Some.ensures) c.push-in-Some-2.ensures)

pub returns-in-None : goal.returns-in-None
returns-in-None c = same (ap nearest_text (sym c.in-None.is ∙ c.nearest_verb.ensures)) c.push-in-None.ensures
