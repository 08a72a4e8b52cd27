use Rattle.std.proofs.Common.{ap, ◌∙◌}
use Rattle.ick_syntax.specs.Tree.{Tree}
use Rattle.ick_source.specs.BodyGrammar.{wholes}
use Rattle.ick_source.specs.Expression.{Sized}
use Rattle.ick_source.proofs.ClampedLemmas.{both-no}
use Rattle.ick_source.proofs.CursorLemmas.{does_then, does_yield}
use Rattle.ick_source.proofs.cursor.Cursor.whole.Goals as goal

pub returns : goal.returns
unfolding wholes
returns c =
    does_then _ _ _ _ _ _ _ c.expression.ensures.reads (λ u e. e)
    (λ x f p. does_yield _ _ _ (record {
      is_clamped = ap (λ (z : Sized Tree). z.value) p.is_clamped;
      is_faults = both-no f ∙ p.is_faults;
    }))
