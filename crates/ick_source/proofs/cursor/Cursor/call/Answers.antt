use Rattle.std.proofs.Common.{ap, Some}
use Rattle.ick_syntax.specs.BodyTree.{next}
use Rattle.ick_syntax.specs.Clamped.{label_faults}
use Rattle.ick_source.specs.BodyGrammar.{calls}
use Rattle.ick_source.proofs.ClampedLemmas.{both-no}
use Rattle.ick_source.proofs.CursorLemmas.{does_then, does_yield}
use Rattle.ick_source.proofs.cursor.Cursor.call.Goals as goal

pub returns : goal.returns
unfolding calls
returns c =
    does_then _ _ _ _ _ _ _ c.label-label.ensures c.expect.ensures.stays
    (λ n k q. does_then _ _ _ _ _ _ _ c.expect.ensures (λ u e. e)
    (λ x j r. does_yield _ _ _ (record {
      is_clamped = ap (λ v. Some (next v)) q.is_clamped;
      is_faults = rw (q.is_faults, r.none) (both-no (label_faults n));
    })))
