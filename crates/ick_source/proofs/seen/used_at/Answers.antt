use Rattle.std.proofs.Common.{refl, subst, sym}
use Rattle.ick_source.specs.Statements.{Ends}
use Rattle.ick_source.proofs.BoundaryLemmas.{opening_unique}
use Rattle.ick_source.proofs.ByteLemmas.{gap_unique}
use Rattle.ick_source.proofs.QualifierLemmas.{qualifiers_unique}
use Rattle.ick_source.proofs.seen.used_at.Goals as goal

pub returns-in_default : goal.returns-in_default
returns-in_default c =
    λ to t s same. absurd (c.in_default.ensures.opening s.says.after (t.label, t.polite) s.says.opening)

pub returns : goal.returns
returns c = λ to t s same.
    let opening = opening_unique c.in-Some.ensures.opening.1 s.says.opening refl in
    let qualifiers = qualifiers_unique c.qualifiers_at-qualifiers.ensures.qualifiers.stand s.says.qualifiers opening.0 in
    let begin = gap_unique c.after_white.ensures.gap s.gap qualifiers.0 in
    c.used_digits.ensures s.head to t.body
    (subst (λ i. Ends c.args.text.now s.head i to t.body) (sym begin) s.ends) same
