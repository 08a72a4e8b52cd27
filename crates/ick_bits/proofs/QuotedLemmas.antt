-- Stretches of a text, and bytes that stand for themselves.
use Rattle.std.proofs.Common.{◌≡◌, ℕ, ◌+◌, ◌<◌, List, [], ◌∷◌, ◌++◌, Bool, true, length, take, drop}
use Rattle.std.proofs.Common.{get_or, nat_eq, refl, ap, sym, ◌∙◌, take-add, length-append}
use Rattle.std.specs.Prelude.{if◌then◌else◌}
use Rattle.std.specs.List.{flat_map}
use Rattle.std.specs.Str.{bytes_eq}
use Rattle.std.proofs.lemmas.List.{take-append-drop, take_more}
use Rattle.std.proofs.lemmas.List.Concat.{flat_map-append}
use Rattle.std.proofs.lemmas.Slice.Eq.{bytes_eq-Decides}
use Rattle.ick_bits.specs.Quoted.{escaped}
use Rattle.ick_bits.specs.declared.quoted.TheConstants.{PLAIN}
use Rattle.ick_bits.proofs.TableLemmas.{true_below, true_at}

-- the next n bytes
pub escaped-more : (xs : List ℕ) (i n : ℕ) →
    flat_map escaped (take (i + n) xs) ≡ flat_map escaped (take i xs) ++ flat_map escaped (take n (drop i xs))
escaped-more xs i n =
    ap (flat_map escaped) (take-add i n xs) ∙ flat_map-append escaped (take i xs) (take n (drop i xs))

-- the rest of the text
pub escaped-whole : (xs : List ℕ) (i : ℕ) →
    flat_map escaped xs ≡ flat_map escaped (take i xs) ++ flat_map escaped (drop i xs)
escaped-whole xs i =
    ap (flat_map escaped) (sym (take-append-drop i xs)) ∙ flat_map-append escaped (take i xs) (drop i xs)

pub length-escaped : (xs : List ℕ) (i : ℕ) →
    length (flat_map escaped xs) ≡ length (flat_map escaped (take i xs)) + length (flat_map escaped (drop i xs))
length-escaped xs i =
    ap length (escaped-whole xs i) ∙ length-append (flat_map escaped (take i xs)) (flat_map escaped (drop i xs))

-- n bytes more that stand for themselves
pub plain-more : (xs : List ℕ) (i n : ℕ) → flat_map escaped (take i xs) ≡ take i xs →
    flat_map escaped (take n (drop i xs)) ≡ take n (drop i xs) →
    flat_map escaped (take (i + n) xs) ≡ take (i + n) xs
plain-more xs i n front next =
    escaped-more xs i n ∙ (λ k. front k ++ next k) ∙ sym (take-add i n xs)

plain-by : (xs : List ℕ) (b : ℕ) (ys : List ℕ) → xs ≡ ys ++ b ∷ [] → flat_map escaped ys ≡ ys →
    escaped b ≡ b ∷ [] → flat_map escaped xs ≡ xs
plain-by xs b ys e front here =
    ap (flat_map escaped) e ∙ flat_map-append escaped ys (b ∷ [])
    ∙ (λ k. front k ++ (here k ++ [])) ∙ sym e

pub plain-next : (xs : List ℕ) (i : ℕ) → i < length xs → flat_map escaped (take i xs) ≡ take i xs →
    escaped (get_or xs i 0) ≡ get_or xs i 0 ∷ [] → flat_map escaped (take (i + 1) xs) ≡ take (i + 1) xs
plain-next xs i h front here =
    plain-by (take (i + 1) xs) (get_or xs i 0) (take i xs) (take_more xs i 0 h) front here

-- whether a byte stands for itself where the table has a 1
is_kept : ℕ → Bool
is_kept b = if nat_eq (get_or PLAIN b 0) 1 then bytes_eq (escaped b) (b ∷ []) else true

pub kept : (b : ℕ) → b < 256 → nat_eq (get_or PLAIN b 0) 1 ≡ true → escaped b ≡ b ∷ []
unfolding true_below escaped is_kept
kept b h one =
    let at : is_kept b ≡ true = true_at is_kept 256 refl b h in
    (bytes_eq-Decides (escaped b) (b ∷ [])).0 (rw one at at)
