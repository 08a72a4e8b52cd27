use Rattle.std.proofs.Common.{Some, refl, sym, ◌∙◌}
use Rattle.ick_syntax.specs.Clamped.{no_faults}
use Rattle.ick_source.specs.Reading.{read}
use Rattle.ick_source.proofs.ClampedLemmas.{both-no}
use Rattle.ick_source.proofs.CursorLemmas.{does_find, none_is}
use Rattle.ick_source.proofs.cursor.Cursor.sign.Goals as goal

pub returns : goal.returns
unfolding read
returns c =
    let fine = none_is _ (sym c.is_some.ensures ∙ c.if-is_some.false) in
    let next = c.lead_at-next.ensures in
    does_find _ _ _ _ no_faults _ fine fine
    (λ i. Some (record { value = sym next.lead i; left = sym next.to i })) (sym (both-no _)) refl
    (record { same = refl; none = refl })
