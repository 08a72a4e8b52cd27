use Rattle.ick_syntax.specs.Clamped.{label_faults}
use Rattle.ick_source.specs.BodyGrammar.{labels}
use Rattle.ick_source.proofs.ClampedLemmas.{both-no}
use Rattle.ick_source.proofs.CursorLemmas.{does_then, does_yield}
use Rattle.ick_source.proofs.cursor.Cursor.label.Goals as goal

pub returns : goal.returns
unfolding labels
returns c =
    let last = c.expect-2.ensures in
    let number = c.number-label.ensures in
    does_then _ _ _ _ _ _ _ c.expect.ensures (λ u e. last.stays u (number.stays u e))
    (λ a f p. does_then _ _ _ _ _ _ _ number last.stays
    (λ n k q. does_then _ _ _ _ _ _ _ last (λ u e. e)
    (λ x j r. does_yield _ _ _ (record {
      is_clamped = q.is_clamped;
      is_faults = rw (p.none, q.is_faults, r.none) (both-no (label_faults n));
    }))))
