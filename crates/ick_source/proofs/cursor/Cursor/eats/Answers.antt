use Rattle.std.proofs.Common.{refl, sym, ◌∙◌}
use Rattle.ick_source.proofs.CursorLemmas.{none_is}
use Rattle.ick_source.proofs.SequenceFound.{word_is, word_is_not}
use Rattle.ick_source.proofs.cursor.Cursor.eats.Goals as goal

pub returns-in-Some : goal.returns-in-Some
returns-in-Some c =
    let fine = none_is _ (sym c.is_some.ensures ∙ c.if-is_some.false) in
    (fine, fine, word_is _ _ _ c.in-Some.ensures, refl, refl)

pub returns-in-None : goal.returns-in-None
returns-in-None c = (λ e. word_is_not _ _ c.in-None.ensures, refl)
