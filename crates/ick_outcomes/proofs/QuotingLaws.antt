-- Proves what is left of the text of an output, and what comes behind it.
use Prim.Native.Nat.{suc}
use Rattle.std.proofs.Common.{◌≡◌, ℕ, ◌+◌, ◌-◌, ◌<◌, ◌≤◌, List, [], ◌∷◌, ◌++◌, length, take, drop}
use Rattle.std.proofs.Common.{refl, ap, sym, ◌∙◌, append_assoc, append-nil, length-append, length-drop, arith}
use Rattle.std.proofs.Common.{slice_index_or}
use Rattle.std.specs.List.{flat_map, remove}
use Rattle.std.proofs.lemmas.List.Concat.{flat_map-append}
use Rattle.std.proofs.lemmas.List.Edits.{remove-append_right}
use Rattle.ick_bits.specs.Quoted.{escaped, quoted}
use Rattle.ick_bits.proofs.QuotedLemmas.{escaped-whole, length-escaped}
use Rattle.ick_outcomes.proofs.Lists.{take-more, take-all}

-- the text of the bytes up to an index, and of one more
length-more : (xs : List ℕ) (i d : ℕ) → i < length xs → length (flat_map escaped (take (i + 1) xs))
    ≡ length (flat_map escaped (take i xs)) + length (escaped (slice_index_or xs i d))
length-more xs i d lt =
    let next : i + 1 ≡ suc i = omega arith in
    let x = slice_index_or xs i d in
    ap (λ k. length (flat_map escaped (take k xs))) next
    ∙ (ap (λ z. length (flat_map escaped z)) (take-more xs i d lt)
    ∙ (ap length (flat_map-append escaped (take i xs) (x ∷ []))
    ∙ (ap (λ z. length (flat_map escaped (take i xs) ++ z)) (append-nil (escaped x))
    ∙ length-append (flat_map escaped (take i xs)) (escaped x))))

-- a length without the texts of the bytes up to an index, and of one more
pub one_less : (xs : List ℕ) (i d kept from r : ℕ) → i < length xs → length (flat_map escaped xs) ≤ from →
    kept + length (flat_map escaped (take i xs)) ≡ from → r ≡ length (escaped (slice_index_or xs i d)) →
    (r ≤ kept) × ((kept - r) + length (flat_map escaped (take (i + 1) xs)) ≡ from)
one_less xs i d kept from r lt le h e =
    let more = length-more xs i d lt in
    let all = length-escaped xs (i + 1) in
    let within : r ≤ kept = omega (arith, le, h, e, more, all) in
    (within, omega (arith, h, e, more, within))

pub all_less : (xs : List ℕ) (i kept from : ℕ) → length xs ≤ i →
    kept + length (flat_map escaped (take i xs)) ≡ from → kept + length (flat_map escaped xs) ≡ from
all_less xs i kept from le h = ap (λ z. kept + length (flat_map escaped z)) (sym (take-all xs i le)) ∙ h

-- the bytes behind an index
behind : (xs : List ℕ) (i : ℕ) → take (length xs - i) (drop i xs) ≡ drop i xs
behind xs i = let n = length-drop i xs in take-all (drop i xs) (length xs - i) (omega (arith, n))

-- quotation marks, and between them the texts of the first bytes and of those behind them
quoted-parts : (xs : List ℕ) (i : ℕ) →
    quoted xs ≡ 34 ∷ (flat_map escaped (take i xs) ++ (flat_map escaped (drop i xs) ++ 34 ∷ []))
unfolding quoted
quoted-parts xs i =
    ap (λ z. 34 ∷ (z ++ 34 ∷ [])) (escaped-whole xs i)
    ∙ ap (λ z. 34 ∷ z) (append_assoc (flat_map escaped (take i xs)) (flat_map escaped (drop i xs)) (34 ∷ []))

length-quoted : (xs : List ℕ) (i : ℕ) → length (quoted xs)
    ≡ length (flat_map escaped (take i xs)) + length (flat_map escaped (drop i xs)) + 2
length-quoted xs i =
    let p = flat_map escaped (take i xs) in
    let s = flat_map escaped (drop i xs) in
    let whole : length (quoted xs) ≡ suc (length (p ++ (s ++ 34 ∷ []))) = ap length (quoted-parts xs i) in
    let first = length-append p (s ++ 34 ∷ []) in
    let last : length (s ++ 34 ∷ []) ≡ length s + 1 = length-append s (34 ∷ []) in
    omega (arith, whole, first, last)

pub long_text : (xs text : List ℕ) (i : ℕ) → text ≡ quoted xs →
    length (flat_map escaped (take (length xs - i) (drop i xs))) + 2 ≤ length text
long_text xs text i e =
    let n = ap length e ∙ length-quoted xs i in
    let rest = ap (λ z. length (flat_map escaped z)) (behind xs i) in
    omega (arith, n, rest)

take-front : (p r : List ℕ) → take (length p) (p ++ r) ≡ p
take-front [] r = refl
take-front (x ∷ p) r = ap (λ z. x ∷ z) (take-front p r)

-- where the text of the bytes behind an index begins
place : (xs text : List ℕ) (i k : ℕ) → text ≡ quoted xs →
    k + length (flat_map escaped (take (length xs - i) (drop i xs))) ≡ length text - 1 →
    k ≡ suc (length (flat_map escaped (take i xs)))
place xs text i k e h =
    let n = ap length e ∙ length-quoted xs i in
    let rest = ap (λ z. length (flat_map escaped z)) (behind xs i) in
    omega (arith, n, rest, h)

-- the text in front of it
front : (xs text : List ℕ) (i k : ℕ) → text ≡ quoted xs → k ≡ suc (length (flat_map escaped (take i xs))) →
    take k text ≡ 34 ∷ flat_map escaped (take i xs)
front xs text i k e h =
    let p = flat_map escaped (take i xs) in
    let r = flat_map escaped (drop i xs) ++ 34 ∷ [] in
    ap (λ j. take j text) h ∙ (ap (λ z. take (suc (length p)) z) (e ∙ quoted-parts xs i)
    ∙ ap (λ z. 34 ∷ z) (take-front p r))

pub removable : (xs ys text : List ℕ) (i k : ℕ) (t u : List ℕ) → text ≡ quoted xs →
    k + length (flat_map escaped (take (length xs - i) (drop i xs))) ≡ length text - 1 → t ≡ take k text →
    u ≡ t ++ quoted ys → k < length u
removable xs ys text i k t u e h f g =
    let at = place xs text i k e h in
    let n : length t ≡ suc (length (flat_map escaped (take i xs))) = ap length (f ∙ front xs text i k e at) in
    let m = ap length g ∙ length-append t (quoted ys) in
    let some = length-quoted ys 0 in
    omega (arith, at, n, m, some)

-- the text in front of it stays, and another text comes behind it without its first quotation mark
pub renewed : (xs ys text : List ℕ) (i k : ℕ) (t u v : List ℕ) → text ≡ quoted xs → take i xs ≡ take i ys →
    k + length (flat_map escaped (take (length xs - i) (drop i xs))) ≡ length text - 1 → t ≡ take k text →
    u ≡ t ++ quoted (take (length ys - i) (drop i ys)) → v ≡ remove u k → v ≡ quoted ys
unfolding quoted
renewed xs ys text i k t u v e same h f g r =
    let at = place xs text i k e h in
    let p = flat_map escaped (take i xs) in
    let s = flat_map escaped (drop i ys) ++ 34 ∷ [] in
    let none : k - k ≡ 0 = omega arith in
    let whole : u ≡ (34 ∷ p) ++ (34 ∷ s) =
    g ∙ (ap (λ z. z ++ quoted (take (length ys - i) (drop i ys))) (f ∙ front xs text i k e at)
    ∙ ap (λ z. (34 ∷ p) ++ quoted z) (behind ys i)) in
    r ∙ (ap (λ z. remove z k) whole ∙ (remove-append_right (34 ∷ p) (34 ∷ s) k k (sym at) (omega arith)
    ∙ (ap (λ j. (34 ∷ p) ++ remove (34 ∷ s) j) none
    ∙ (ap (λ z. 34 ∷ (flat_map escaped z ++ s)) same ∙ sym (quoted-parts ys i)))))
