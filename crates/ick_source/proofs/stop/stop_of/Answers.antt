use Rattle.std.proofs.Common.{◌≡◌, ℕ, arith, refl, sym}
use Rattle.ick_source.specs.Boundaries.{IsStart}
use Rattle.ick_source.specs.Statements.{IsStatement}
use Rattle.ick_syntax.specs.StatementTree.{StatementTree}
use Rattle.ick_source.proofs.BoundaryLemmas.{opening_unique}
use Rattle.ick_source.proofs.ByteLemmas.{gap_unique}
use Rattle.ick_source.proofs.QualifierLemmas.{qualifiers_unique}
use Rattle.ick_source.proofs.StatementLemmas.{statement_start}
use Rattle.ick_source.proofs.StopPlaces.{either, recognised_there, stop_there}
use Rattle.ick_source.proofs.stop.stop_of.Goals as goal

pub returns-then-at-text : goal.returns-then-at-text
returns-then-at-text c = λ to tree s e. let past = c.if-at-text.true in let start = statement_start s in omega (arith, past, start)

pub returns-in_default : goal.returns-in_default
returns-in_default c =
    λ to tree s e. c.in_default.ensures.opening s.says.after (tree.label, tree.polite) s.says.opening

pub returns-in-Ok : goal.returns-in-Ok
returns-in-Ok c =
    let opening = c.in-Some.ensures.opening in
    let same : (to : ℕ) (tree : StatementTree) (g : IsStatement c.args.text.now c.args.at to tree) →
    g.begin ≡ c.after_white.result =
    λ to tree g.
    let after = opening_unique g.says.opening opening.1 refl in
    let head = qualifiers_unique g.says.qualifiers c.qualifiers_at-qualifiers.ensures.qualifiers.stand after.0 in
    gap_unique g.gap c.after_white.ensures.gap head.0 in
    let start : IsStart c.args.text.now c.args.at =
    record { end = c.in-Some.start.to; label = opening.0.0; polite = opening.0.1; opening = opening.1 } in
    either c.in-Ok.stop c.in-Ok.ensures (λ r. recognised_there same r.2) (λ x s. stop_there start same s)
