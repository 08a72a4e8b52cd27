use Rattle.std.proofs.Common.{ap, ◌∙◌}
use Rattle.ick_source.specs.BodyGrammar.{named}
use Rattle.ick_source.proofs.ClampedLemmas.{both-no}
use Rattle.ick_source.proofs.CursorLemmas.{does_then, does_yield}
use Rattle.ick_source.proofs.cursor.Cursor.named.Goals as goal

pub returns : goal.returns
unfolding named
returns c =
    does_then _ _ _ _ _ _ _ c.number-number.ensures (λ u e. e)
    (λ n f p. does_yield _ _ _ (record {
      is_clamped = ap (λ v. record { kind = c.args.kind; number = v }) p.is_clamped;
      is_faults = both-no f ∙ p.is_faults;
    }))
