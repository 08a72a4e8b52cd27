use Rattle.std.proofs.Common.{refl, sym, ap, ◌∙◌}
use Rattle.ick_syntax.specs.Clamped.{clamped}
use Rattle.ick_source.specs.Cursors.{faults_by}
use Rattle.ick_source.proofs.ClampedLemmas.{clamped-capped}
use Rattle.ick_source.proofs.CursorLemmas.{does_find, does_refused, none_is}
use Rattle.ick_source.proofs.Readings.{number_found, faults-capped}
use Rattle.ick_source.proofs.StopLemmas.{halts_number}
use Rattle.ick_source.proofs.cursor.Cursor.number.Goals as goal

pub returns-in_default : goal.returns-in_default
returns-in_default c = does_refused _ _ _ _ _ _ c.refuse.ensures (λ e. halts_number _ c.in_default.ensures)

pub returns : goal.returns
returns c =
    let fine = none_is _ (sym c.is_some.ensures ∙ c.if-is_some.false) in
    let found = c.in-Some.ensures in
    let n = found.number in
    does_find _ _ _ n (faults_by c.args.sort n) _ fine fine (number_found _ _ _ found.is)
    (rw (c.union-self.ensures, c.faults.ensures, found.capped, faults-capped c.args.sort n) refl) refl
    (record { is_clamped = c.clamped_number.ensures ∙ ap clamped found.capped ∙ clamped-capped n; is_faults = refl })
