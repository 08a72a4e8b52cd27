use Rattle.std.proofs.Common.{◌∙◌, ap, sym}
use Rattle.ick_session.specs.Lines.{unread_text}
use Rattle.ick_inspect.proofs.AddLaws.{same}
use Rattle.ick_session.proofs.lines.append_unread.Goals as goal

pub returns-in-None : goal.returns-in-None
returns-in-None c =
    same (ap (unread_text c.args.word.now) (sym c.in-None.is ∙ c.verb_of.ensures)) c.append_nearest.ensures
