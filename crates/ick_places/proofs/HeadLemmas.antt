-- The places of the parts of a head.
use Rattle.std.proofs.Common.{◌≡◌, ℕ, ◌+◌, Bool, true, false, List, Option, Some, None, refl, subst}
use Rattle.std.specs.Prelude.{is_some}
use Rattle.ick_places.specs.declared.head.Span.{Span}
use Rattle.ick_places.specs.Heads.{span, IsNegationPlace, IsChancePlace, ArePlacedQualifiers, negated, affirmed, given}
use Rattle.ick_places.specs.Heads.{certain, negation_first, chance_first, IsPlacedOpening, unlabelled, labelled}
use Rattle.ick_source.specs.Bytes.{IsGap}
use Rattle.ick_places.specs.declared.head.Head.{Head}
use Rattle.ick_places.specs.Heads.{IsPlacedHead}
use Rattle.ick_source.specs.Boundaries.{IsOpening, IsStart}
use Rattle.ick_source.specs.Boundaries as boundaries
use Rattle.ick_source.specs.Statements.{IsStatement}
use Rattle.ick_syntax.specs.StatementTree.{StatementTree}
use Rattle.ick_source.proofs.BoundaryLemmas.{opening_unique}
use Rattle.ick_source.proofs.QualifierLemmas.{qualifiers_unique}
use Rattle.ick_source.specs.Qualifiers.{IsNegated, IsNegation, IsChance, AreQualifiers}
use Rattle.ick_source.specs.Qualifiers as from
use Rattle.ick_source.proofs.ByteLemmas.{gap_unique}

pub negation_none : {text : List ℕ} {at to : ℕ} {v : Bool} → IsNegated text at to v → v ≡ false →
    IsNegationPlace text at to None
negation_none (from.negated g n) e = absurd cc
negation_none (from.affirmed g n) e = affirmed g n

pub negation_some : {text : List ℕ} {at to : ℕ} {v : Bool} (next : ℕ) → IsNegated text at to v → v ≡ true →
    IsGap text at next → IsNegationPlace text at to (Some (span next to))
negation_some {text} {at} next (from.negated {next = here} g n) e gap =
    subst (λ k. IsNegationPlace text at (here + 3) (Some (span k (here + 3)))) (gap_unique g gap refl) (negated g n)
negation_some next (from.affirmed g n) e gap = absurd cc

pub chance_none : {text : List ℕ} {at to : ℕ} {v : Option ℕ} → IsChance text at to v → v ≡ None →
    IsChancePlace text at to None
chance_none (from.given g p) e = absurd cc
chance_none (from.certain g n) e = certain g n

pub chance_some : {text : List ℕ} {at to : ℕ} {v : Option ℕ} (next n : ℕ) → IsChance text at to v → v ≡ Some n →
    IsGap text at next → IsChancePlace text at to (Some (span next to))
chance_some {text} {at} {to} next n (from.given g p) e gap =
    subst (λ k. IsChancePlace text at to (Some (span k to))) (gap_unique g gap refl) (given g p)
chance_some next n (from.certain g m) e gap = absurd cc

pub negation_leads : {text : List ℕ} {at middle to : ℕ} {negation chance : Option Span} → is_some negation ≡ true →
    IsNegationPlace text at middle negation → IsChancePlace text middle to chance →
    ArePlacedQualifiers text at to negation chance
negation_leads e (negated g n) c = negation_first (negated g n) c
negation_leads e (affirmed g n) c = absurd cc

pub chance_leads : {text : List ℕ} {at middle last to : ℕ} {before negation chance : Option Span} →
    is_some before ≡ false → IsNegationPlace text at middle before → IsChancePlace text middle last chance →
    IsNegationPlace text last to negation → ArePlacedQualifiers text at to negation chance
chance_leads e (negated g n) c m = absurd cc
chance_leads e (affirmed g n) c m = chance_first (affirmed g n) c m

opening_is : {text : List ℕ} {at : ℕ} {label : Option Span} {identifier : Span} →
    IsPlacedOpening text at label identifier →
    (number : Option ℕ) × (polite : Bool) × IsOpening text at identifier.to number polite
opening_is (unlabelled {polite = p} n x) = (None, p, boundaries.unlabelled x)
opening_is (labelled {n = n} {polite = p} l g x) = (Some n, p, boundaries.labelled l g x)

negation_is : {text : List ℕ} {at to : ℕ} {v : Option Span} → IsNegationPlace text at to v → IsNegated text at to (is_some v)
negation_is (negated g n) = from.negated g n
negation_is (affirmed g n) = from.affirmed g n

chance_is : {text : List ℕ} {at to : ℕ} {v : Option Span} → IsChancePlace text at to v →
    (number : Option ℕ) × IsChance text at to number × (is_some number ≡ is_some v)
chance_is (given {n = n} g p) = (Some n, from.given g p, refl)
chance_is (certain g n) = (None, from.certain g n, refl)

-- a percentage that isn't there takes nothing, and a negation that wasn't there isn't there again
no_chance : {text : List ℕ} {at here middle to : ℕ} {v : Option Span} → IsNegationPlace text at here None →
    IsChance text here middle None → IsNegationPlace text middle to v → AreQualifiers text at to false None
no_chance {text} (affirmed f z) (from.certain g x) (negated h y) =
    absurd (z (subst (λ k. IsNegation text k) (gap_unique h f refl) y))
no_chance (affirmed f z) (from.certain g x) (affirmed h y) = from.neither (from.affirmed f z) (from.certain g x)

qualifiers_by : {text : List ℕ} {at middle to : ℕ} {v : Option Span} (number : Option ℕ) →
    IsNegationPlace text at at None → IsChance text at middle number → IsNegationPlace text middle to v →
    (negative : Bool) × (k : Option ℕ) × AreQualifiers text at to negative k
qualifiers_by None m c n = (false, None, no_chance m c n)
qualifiers_by {v = v} (Some k) m c n = (is_some v, Some k, from.percentage_first c (negation_is n))

qualifiers_are : {text : List ℕ} {at to : ℕ} {negation chance : Option Span} →
    ArePlacedQualifiers text at to negation chance →
    (negative : Bool) × (k : Option ℕ) × AreQualifiers text at to negative k
qualifiers_are (negation_first m c) = let k = chance_is c in (true, k.0, from.negation_first (negation_is m) k.1)
qualifiers_are (chance_first m c n) = let k = chance_is c in qualifiers_by k.0 m k.1 n

-- the body begins where the statement says
pub head-begins : {text : List ℕ} {at to : ℕ} {t : StatementTree} {h : Head} → IsPlacedHead text at h →
    (s : IsStatement text at to t) → h.begin ≡ s.begin
head-begins {text} {at} p s =
    let o = opening_is p.opening in
    let after = opening_unique o.2 s.says.opening refl in
    let q = qualifiers_are p.qualifiers in
    gap_unique p.gap s.gap (qualifiers_unique q.2 s.says.qualifiers after.0).0

pub head-starts : {text : List ℕ} {at : ℕ} {h : Head} → IsPlacedHead text at h → IsStart text at
head-starts {h = h} p =
    let o = opening_is p.opening in
    record { end = h.identifier.to; label = o.0; polite = o.1; opening = o.2 }
