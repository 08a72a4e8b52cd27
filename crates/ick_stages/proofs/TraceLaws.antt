-- The lines of traces, one more at a time.
use Rattle.std.proofs.Common.{◌≡◌, ◌∙◌, ℕ, suc, ◌+◌, ◌-◌, ◌<◌, List, [], ◌++◌, ap, arith, append_assoc, refl, sym}
use Rattle.std.proofs.lemmas.List.{append-nil}
use Rattle.std.specs.List.{flat_map, range_with_len}
use Rattle.ick_inspect.proofs.AddLaws.{nothing, pieces_more, range_more, same, then}
use Rattle.ick_inspect.specs.Text.{Adds}
use Rattle.ick_inspect.specs.declared.text.Text.{Text}
use Rattle.ick_instructions.specs.declared.lowered.LoweredParts.{LoweredParts}
use Rattle.ick_stages.specs.Traces.{over, over_line, over_text}
use Rattle.ick_traces.specs.Spot.{Spot}
use Rattle.ick_traces.specs.declared.fixed.Fixed.{Fixed}

-- a text was added but for a rest of it
pub record AddsFront (whole rest : List ℕ) (before after : Text) : Type 0 where
  pub front : List ℕ
  pub all : whole ≡ front ++ rest
  pub added : Adds before after front

pub front_none : (whole : List ℕ) (a : Text) → AddsFront whole whole a a
front_none whole a = record { front = []; all = refl; added = nothing a }

pub front_all : {whole : List ℕ} {a b : Text} → AddsFront whole [] a b → Adds a b whole
front_all {whole} {a} {b} f = same (sym (f.all ∙ append-nil f.front)) f.added

pub front_more : {whole rest : List ℕ} (piece more : List ℕ) {a b c : Text} → AddsFront whole rest a b →
    rest ≡ piece ++ more → Adds b c piece → AddsFront whole more a c
front_more piece more f is adds = record {
  front = f.front ++ piece;
  all = f.all ∙ (ap (λ r. f.front ++ r) is ∙ sym (append_assoc f.front piece more));
  added = then f.added adds;
}

-- one more statement that needs no instruction
over_next : (parts : LoweredParts) (fixed : Fixed) (n : ℕ) (p : Spot) (left : ℕ) → n ≡ suc left →
    over_text parts fixed n p ≡ over_line fixed p ++ over_text parts fixed left (over parts fixed p)
over_next parts fixed n p left is = ap (λ k. over_text parts fixed k p) is

pub over_more : {whole : List ℕ} (parts : LoweredParts) (fixed : Fixed) (upto : ℕ) (old new : Spot) (before after : ℕ)
    {a b c : Text} → AddsFront whole (over_text parts fixed (upto - before) old) a b → before < upto →
    after ≡ before + 1 → new ≡ over parts fixed old → Adds b c (over_line fixed old) →
    AddsFront whole (over_text parts fixed (upto - after) new) a c
over_more parts fixed upto old new before after front less one is adds =
    let left : upto - before ≡ suc (upto - after) = omega (arith, less, one) in
    front_more (over_line fixed old) (over_text parts fixed (upto - after) new) front
    (over_next parts fixed (upto - before) old (upto - after) left
    ∙ ap (λ s. over_line fixed old ++ over_text parts fixed (upto - after) s) (sym is))
    adds

-- no statement is left
pub over_none : (parts : LoweredParts) (fixed : Fixed) (n : ℕ) (p : Spot) → n ≡ 0 → over_text parts fixed n p ≡ []
over_none parts fixed n p is = ap (λ k. over_text parts fixed k p) is

-- the lines of one more instruction
pub pieces_next : (f : ℕ → List ℕ) (start k : ℕ) →
    flat_map f (range_with_len start (k + 1)) ≡ flat_map f (range_with_len start k) ++ f (start + k)
pieces_next f start k =
    ap (flat_map f) (range_more start k) ∙ pieces_more f (range_with_len start k) (start + k)
