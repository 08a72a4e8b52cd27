-- Where the parts of a statement's head are.
use Rattle.std.specs.Prelude.{ℕ, ◌+◌, Bool, List, Option, Some, None}
use Rattle.ick_places.specs.declared.head.Head.{Head}
use Rattle.ick_places.specs.declared.head.Span.{Span}
use Rattle.ick_source.specs.Boundaries.{IsIdentifier, IsLabelIn}
use Rattle.ick_source.specs.Bytes.{IsGap}
use Rattle.ick_source.specs.Qualifiers.{IsNegation, IsPercentage}

abbrev pub span : (from to : ℕ) → Span
span from to = record { from = from; to = to }

-- an identifier; or a label, white bytes and an identifier
pub data IsPlacedOpening (text : List ℕ) (at : ℕ) : Option Span → Span → Type 0 where
  unlabelled : {to : ℕ} {polite : Bool} → ((to n : ℕ) → IsLabelIn text at to n → ⊥) →
      IsIdentifier text at to polite → IsPlacedOpening text at None (span at to)
  labelled : {last next to n : ℕ} {polite : Bool} → IsLabelIn text at last n → IsGap text last next →
      IsIdentifier text next to polite → IsPlacedOpening text at (Some (span at last)) (span next to)

-- white bytes and a negation if they are there, else nothing
pub data IsNegationPlace (text : List ℕ) : ℕ → ℕ → Option Span → Type 0 where
  negated : {from next : ℕ} → IsGap text from next → IsNegation text next →
      IsNegationPlace text from (next + 3) (Some (span next (next + 3)))
  affirmed : {from next : ℕ} → IsGap text from next → (IsNegation text next → ⊥) → IsNegationPlace text from from None

-- white bytes and a percentage if they are there, else nothing
pub data IsChancePlace (text : List ℕ) : ℕ → ℕ → Option Span → Type 0 where
  given : {from next to n : ℕ} → IsGap text from next → IsPercentage text next to n →
      IsChancePlace text from to (Some (span next to))
  certain : {from next : ℕ} → IsGap text from next → ((to n : ℕ) → IsPercentage text next to n → ⊥) →
      IsChancePlace text from from None

-- a negation and a percentage, each at most once and in either order
pub data ArePlacedQualifiers (text : List ℕ) : ℕ → ℕ → Option Span → Option Span → Type 0 where
  negation_first : {from middle to : ℕ} {negation : Span} {chance : Option Span} →
      IsNegationPlace text from middle (Some negation) → IsChancePlace text middle to chance →
      ArePlacedQualifiers text from to (Some negation) chance
  chance_first : {from middle to : ℕ} {negation chance : Option Span} → IsNegationPlace text from from None →
      IsChancePlace text from middle chance → IsNegationPlace text middle to negation →
      ArePlacedQualifiers text from to negation chance

-- a head, and white bytes before the body
pub record IsPlacedHead (text : List ℕ) (at : ℕ) (head : Head) : Type 0 where
  pub last : ℕ
  pub opening : IsPlacedOpening text at head.label head.identifier
  pub qualifiers : ArePlacedQualifiers text head.identifier.to last head.negation head.chance
  pub gap : IsGap text last head.begin
