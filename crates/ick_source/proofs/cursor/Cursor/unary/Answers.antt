use Rattle.std.proofs.Common.{◌≡◌, Option, None, refl, sym, ◌∙◌}
use Rattle.ick_syntax.specs.declared.faults.Faults.{Faults}
use Rattle.ick_syntax.specs.declared.tree.UnaryOp.{UnaryOp}
use Rattle.ick_source.specs.declared.cursor.Cursor.{Cursor}
use Rattle.ick_source.specs.declared.lead.Lead.{Lead}
use Rattle.ick_source.specs.declared.lead.Lead.TheVariants.{Spot, Array, Hash, Group, Unary, Binary, Other}
use Rattle.ick_source.specs.Expression.{unaries, unary_by}
use Rattle.ick_source.specs.Grammar.{yields}
use Rattle.ick_source.specs.Cursors.{Does}
use Rattle.ick_source.proofs.ClampedLemmas.{both-no}
use Rattle.ick_source.proofs.CursorLemmas.{does_decided, does_next, does_then, does_yield}
use Rattle.ick_source.proofs.cursor.Cursor.unary.Goals as goal

pub returns-in-Unary : goal.returns-in-Unary
unfolding unaries
returns-in-Unary c =
    does_decided _ _ _ _ _ (Unary c.in-Unary.op) _
    (does_next _ _ (λ e. sym c.in-Unary.is ∙ c.lead.ensures.next e)) c.sign.ensures.stays
    (does_then _ _ _ _ _ _ _ c.sign.ensures (λ u e. e)
    (λ l f q. does_yield _ _ _ (record { same = refl; none = both-no f ∙ q.none })))

other_unary : (l : Lead) (now : Cursor) (Q : Option UnaryOp → Faults → Type 0) → ((o : UnaryOp) → l ≡ Unary o → ⊥) →
    Does (yields None) now now Q → Does (unary_by l) now now Q
other_unary (Unary o) now Q other p = absurd (other o refl)
other_unary (Spot k) now Q other p = p
other_unary (Array k) now Q other p = p
other_unary Hash now Q other p = p
other_unary (Group q) now Q other p = p
other_unary (Binary o) now Q other p = p
other_unary Other now Q other p = p

pub returns-in_default : goal.returns-in_default
unfolding unaries
returns-in_default c =
    does_decided _ _ _ _ _ c.lead.result _ (does_next _ _ c.lead.ensures.next) (λ u e. e)
    (other_unary _ _ _ c.in_default.not-Unary (does_yield _ _ _ (record { same = refl; none = refl })))
