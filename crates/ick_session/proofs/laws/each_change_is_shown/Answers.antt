use Rattle.ick_session.proofs.ChangeLaws.{change_shown}
use Rattle.ick_session.proofs.laws.each_change_is_shown.Goals as goal

pub returns : goal.returns
returns c = λ p code s chosen name is differs.
    let found = change_shown p code s chosen name is differs in
    (found.front, found.back, found.text_is)
