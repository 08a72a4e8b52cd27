use Rattle.std.proofs.Common.{ℕ, Bool, sym, subst}
use Rattle.ick_source.specs.Boundaries.{IsIdentifier}
use Rattle.ick_source.proofs.BoundaryLemmas.{opening_neither, opening_unfinished}
use Rattle.ick_places.specs.Heads.{span, IsPlacedOpening, unlabelled, labelled}
use Rattle.ick_places.proofs.head.opening_of.Goals as goal
use Rattle.ick_places.proofs.head.opening_of.Goals.{in-Some, in-None}

pub returns-in_default-clause-opening : goal.returns-in_default-clause-opening
returns-in_default-clause-opening c = λ x.
    elim c.match-label_in.branch [
      | in-Some w ↦
          opening_unfinished w.in-Some.ensures.label.1 w.after_white.ensures.gap
          (subst (λ y. (to : ℕ) (p : Bool) → IsIdentifier c.args.text.now y.1 to p → ⊥) w.label-is c.in_default.ensures.identifier)
          x.opening
      | in-None w ↦
          opening_neither
          (subst (λ y. (to : ℕ) (p : Bool) → IsIdentifier c.args.text.now y.1 to p → ⊥) w.label-is c.in_default.ensures.identifier)
          w.in-None.ensures.label x.opening
    ]

pub returns-clause-opening : goal.returns-clause-opening
returns-clause-opening c =
    let text = c.args.text.now in
    let to = c.in-Some-identifier_at.found.to in
    let found = c.in-Some-identifier_at.ensures.identifier in
    elim c.match-label_in.branch [
      | in-Some w ↦
          subst (λ x. IsPlacedOpening text c.args.at x.0 (span x.1 to)) (sym w.label-is)
          (labelled w.in-Some.ensures.label.1 w.after_white.ensures.gap
          (subst (λ x. IsIdentifier text x.1 to found.0) w.label-is found.1))
      | in-None w ↦
          subst (λ x. IsPlacedOpening text c.args.at x.0 (span x.1 to)) (sym w.label-is)
          (unlabelled w.in-None.ensures.label
          (subst (λ x. IsIdentifier text x.1 to found.0) w.label-is found.1))
    ]
