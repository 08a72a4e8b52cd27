-- The texts of the statements of a cut begin at positions of the source.
use Rattle.std.proofs.Common.{◌≡◌, ℕ, ◌+◌, ◌-◌, ◌<◌, ◌≤◌, Bool, true, false, Option, List, [], ◌∷◌, ◌⊎◌, inl, inr}
use Rattle.std.proofs.Common.{length, ap, sym, refl, ◌∙◌, arith, drop, subst}
use Rattle.std.specs.Prelude.{slice_index, slice_range}
use Rattle.std.proofs.lemmas.Bool.{cases_lt}
use Rattle.std.proofs.lemmas.List.{get_or_past, length-drop, length-take}
use Rattle.ick_bits.specs.White.{is_white_byte}
use Rattle.ick_syntax.specs.StatementTree.{StatementTree}
use Rattle.ick_source.specs.Bytes.{byte}
use Rattle.ick_source.specs.Boundaries.{IsIdentifier, please_do, only_please, only_do, IsOpening, unlabelled, labelled}
use Rattle.ick_source.specs.Boundaries.{IsBoundary, at_start, at_end}
use Rattle.ick_source.specs.Statements.{Ends, recognised, unrecognised, IsTrimmed}
use Rattle.ick_source.specs.Cut.{AreStatements, done, statement_then, IsFront, nothing, something, IsCut}
use Rattle.ick_inspect.specs.Positions.{AreAt, no_text, text_then, BeginsAt, texts_of}

-- a byte that isn't 0 is within the text
inside : (text : List ℕ) (at b : ℕ) → byte text at ≡ b → 0 < b → at < length text
inside text at b is some = cases (cases_lt at (length text))
  where
    cases : (at < length text) ⊎ (length text ≤ at) → at < length text
    cases (inl lt) = lt
    cases (inr past) = absurd (omega (arith, get_or_past text at 0 past))

-- where a statement may start, there is a byte that isn't white
record Solid (text : List ℕ) (at : ℕ) : Type 0 where
  pub within : at < length text
  pub solid : is_white_byte (byte text at) ≡ false

solid_by : (text : List ℕ) (at b : ℕ) → byte text at ≡ b → 0 < b → is_white_byte b ≡ false → Solid text at
solid_by text at b is some not_white = record {
  within = inside text at b is some;
  solid = ap is_white_byte is ∙ not_white;
}

identifier_solid : {text : List ℕ} {from to : ℕ} {polite : Bool} → IsIdentifier text from to polite → Solid text from
identifier_solid {text} {from} (please_do word gap next) = solid_by text from 80 word.0 (omega arith) refl
identifier_solid {text} {from} (only_please word gap refused) = solid_by text from 80 word.0 (omega arith) refl
identifier_solid {text} {from} (only_do word) = solid_by text from 68 word.0 (omega arith) refl

opening_solid : {text : List ℕ} {from to : ℕ} {label : Option ℕ} {polite : Bool} →
    IsOpening text from to label polite → Solid text from
opening_solid (unlabelled identifier) = identifier_solid identifier
opening_solid {text} {from} (labelled label gap identifier) = solid_by text from 40 label.opens (omega arith) refl

boundary_within : {text : List ℕ} {to : ℕ} → IsBoundary text to → to ≤ length text
boundary_within (at_start start) = let s = (opening_solid start.opening).within in omega arith
boundary_within (at_end e) = omega arith

ends_within : {text : List ℕ} {head from to : ℕ} {body : _} → Ends text head from to body → to ≤ length text
ends_within (recognised is) = boundary_within is.boundary
ends_within (unrecognised none next) = boundary_within next.boundary

size : (text : List ℕ) (from to : ℕ) → from ≤ to → to ≤ length text → length (slice_range text from to) ≡ to - from
size text from to le within =
    let d = length-drop from text in let t = length-take (to - from) (drop from text) in omega arith

-- a text without white bytes at its end begins where it is cut out
begins : {text : List ℕ} {from to : ℕ} {bytes : List ℕ} → IsTrimmed text from to bytes → to ≤ length text →
    Solid text from → (BeginsAt text from bytes) × (from + length bytes ≤ to)
    × ((k : ℕ) → from + length bytes ≤ k → k < to → is_white_byte (slice_index text k) ≡ true)
begins {text} {from} {to} {bytes} trimmed within solid =
    let some = trimmed.some in
    let order = trimmed.order in
    let long = size text from (trimmed.last + 1) (omega arith) (omega arith) in
    let size_is : length bytes ≡ trimmed.last + 1 - from = ap length trimmed.bytes_are ∙ long in
    let end : from + length bytes ≡ trimmed.last + 1 = omega arith in (
      record {
        some = omega arith;
        within = omega arith;
        text_is = ap (slice_range text from) end ∙ sym trimmed.bytes_are;
        solid = solid.solid;
      },
      omega arith,
      λ k low high. trimmed.white k (omega arith) high,
    )

-- white bytes before texts
extended : {text : List ℕ} {a b : ℕ} {texts : List (List ℕ)} {starts : List ℕ} → a ≤ b →
    ((k : ℕ) → a ≤ k → k < b → is_white_byte (slice_index text k) ≡ true) →
    AreAt text b texts starts → AreAt text a texts starts
extended le white no_text = no_text
extended {text} {a} {b} le white (text_then {from} {at} first gap begin rest) = text_then (omega arith) whole begin rest
  where
    whole : (k : ℕ) → a ≤ k → k < at → is_white_byte (slice_index text k) ≡ true
    whole k low high = cases (cases_lt k b)
      where
        cases : (k < b) ⊎ (b ≤ k) → is_white_byte (slice_index text k) ≡ true
        cases (inl lt) = white k low lt
        cases (inr ge) = gap k ge high

record Placed (text : List ℕ) (from : ℕ) (trees : List StatementTree) : Type 0 where
  pub starts : List ℕ
  pub are : AreAt text from (texts_of trees) starts

-- a text at a position, before others
joined : {text : List ℕ} {from to : ℕ} {tree : StatementTree} {trees : List StatementTree} →
    IsTrimmed text from to tree.text → to ≤ length text → Solid text from → Placed text to trees →
    Placed text from (tree ∷ trees)
joined {text} {from} {to} {tree} {trees} trimmed within solid placed =
    let b = begins trimmed within solid in
    record {
      starts = from ∷ placed.starts;
      are = text_then (omega arith) (λ k low high. absurd (omega arith)) b.0 (extended b.1 b.2 placed.are);
    }

statements_placed : {text : List ℕ} {from : ℕ} (trees : List StatementTree) → AreStatements text from trees →
    Placed text from trees
statements_placed [] (done e) = record { starts = []; are = no_text }
statements_placed (tree ∷ trees) (statement_then is rest) =
    joined is.trimmed (ends_within is.ends) (opening_solid is.says.opening) (statements_placed trees rest)

not_true : (b : Bool) → (b ≡ true → ⊥) → b ≡ false
not_true true refused = absurd (refused refl)
not_true false refused = refl

front_placed : {text : List ℕ} {begin start : ℕ} {rest trees : List StatementTree} → start ≤ length text →
    (is_white_byte (byte text begin) ≡ true → ⊥) → IsFront text begin start rest trees → Placed text start rest →
    Placed text begin trees
front_placed {text} {begin} {start} {rest} within refused (nothing e) placed =
    subst (λ at. Placed text at rest) (sym e) placed
front_placed {text} {begin} within refused (something lt trimmed) placed =
    joined trimmed within
    record { within = omega arith; solid = not_true (is_white_byte (byte text begin)) refused } placed

pub cut_placed : (text : List ℕ) (trees : List StatementTree) → IsCut text trees →
    (starts : List ℕ) × AreAt text 0 (texts_of trees) starts
cut_placed text trees cut =
    let placed = front_placed (boundary_within cut.first.boundary) cut.gap.stops cut.front
    (statements_placed cut.rest cut.statements) in
    (placed.starts, extended cut.gap.order (λ k low high. cut.gap.white k low high) placed.are)
