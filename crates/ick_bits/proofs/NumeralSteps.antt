-- One digit of a number's text, and the symbols from it on.
use Rattle.std.proofs.Common.{◌≡◌, ℕ, zero, suc, ◌+◌, ◌-◌, ◌^◌, ◌<◌, ◌≤◌, List, []}
use Rattle.std.proofs.Common.{◌∷◌, ◌++◌, length, map, refl, ap, arith, get_or, drop, length-append}
use Rattle.std.proofs.Common.{length-drop, drop-cons, add-one, append-nil, ◌∙◌, sym}
use Rattle.std.proofs.lemmas.List.{length-map}
use Rattle.std.proofs.Math.Seq.{drop-length}
use Rattle.std.proofs.lemmas.Bool.Decides.{nat_tests}
use Rattle.std.proofs.lemmas.Fmt.{decimal_is_IsNumeral}
use Rattle.std.specs.Fmt.{decimal}
use Rattle.std.specs.Char.{digit_value}
use Rattle.std.specs.Str.Parse.{AllDigits}
use Rattle.ick_bits.specs.declared.numerals.Symbol.{Symbol}
use Rattle.ick_bits.specs.Numeral.{letters_of, digit_symbols, place_symbols, symbols_of, numeral_of}
use Rattle.ick_bits.proofs.NumeralLemmas.{length-numeral}

-- a byte that is a decimal digit
pub digit-byte : (c : ℕ) → digit_value c < 10 → (48 ≤ c) × (c ≤ 57) × (digit_value c ≡ c - 48)
digit-byte c h = grind (arith, nat_tests)

pub digit-at : (t : List ℕ) → AllDigits 10 t → (i : ℕ) →
    i < length t →
    (48 ≤ get_or t i 0) × (get_or t i 0 ≤ 57) × (digit_value (get_or t i 0) ≡ get_or t i 0 - 48)
digit-at [] a i h = absurd (omega arith)
digit-at (c ∷ cs) a zero h = digit-byte c a.0
digit-at (c ∷ cs) a (suc i) h = digit-at cs a.1 i (omega arith)

pub digit-below : (t : List ℕ) → AllDigits 10 t → (i : ℕ) → i < length t → get_or t i 0 - 48 < 10
digit-below t a i h = omega (arith, digit-at t a i h)

-- t is the decimal text of v
pub record IsText (v : ℕ) (t : List ℕ) : Type 0 where
  pub below : v < 2 ^ 32
  pub text : t ≡ decimal v

pub text-digits : (v : ℕ) (t : List ℕ) → IsText v t → AllDigits 10 t
text-digits v t e = let a = (decimal_is_IsNumeral v (omega (arith, e.below))).0.1 in rw (e.text) a

pub text-at : (v : ℕ) (t : List ℕ) → IsText v t → (i : ℕ) →
    i < length t →
    (48 ≤ get_or t i 0) × (get_or t i 0 ≤ 57) × (digit_value (get_or t i 0) ≡ get_or t i 0 - 48)
text-at v t e = digit-at t (text-digits v t e)

-- the symbols from place i of the text on
unfoldable pub symbols_from : List ℕ → ℕ → List Symbol
symbols_from t i = symbols_of (map digit_value (drop i t))

pub symbols-step : (t : List ℕ) → AllDigits 10 t → (i : ℕ) → i < length t →
    symbols_from t i ≡ digit_symbols (letters_of (length t - 1 - i)) (get_or t i 0 - 48) ++ symbols_from t (i + 1)
unfolding symbols_from symbols_of
symbols-step t a i h =
    let n : length (map digit_value (drop (suc i) t)) ≡ length t - 1 - i =
    omega (arith, length-map (drop (suc i) t) digit_value, length-drop (suc i) t) in
    rw (add-one, drop-cons t i 0, n, (digit-at t a i h).2) refl

-- the same by the digit's number
pub symbols-next : (t : List ℕ) → AllDigits 10 t → (i : ℕ) → i < length t → (d : ℕ) → d ≡ get_or t i 0 - 48 →
    symbols_from t i ≡ place_symbols (length t - 1 - i) d ++ symbols_from t (i + 1)
symbols-next t a i h d e = rw e (symbols-step t a i h)

pub symbols-start : (v : ℕ) (t : List ℕ) → IsText v t → symbols_from t 0 ≡ numeral_of v
unfolding symbols_from numeral_of
symbols-start v t e = rw (e.text) refl

pub symbols-all : (t : List ℕ) → symbols_from t 0 ≡ symbols_of (map digit_value t)
unfolding symbols_from
symbols-all t = refl

pub symbols-end : (t : List ℕ) (i : ℕ) → i ≡ length t → symbols_from t i ≡ []
unfolding symbols_from symbols_of
symbols-end t i e = rw (e, drop-length t) refl

-- what stands so far, the symbols of one digit and the rest make the numeral
pub room : (v : ℕ) → v < 2 ^ 32 → (xs ys zs : List Symbol) → xs ++ (ys ++ zs) ≡ numeral_of v →
    length xs + length ys ≤ 39
room v f xs ys zs e =
    let n : length (xs ++ (ys ++ zs)) ≤ 39 = rw e (length-numeral v f) in
    omega (arith, length-append xs (ys ++ zs), length-append ys zs)

-- one digit more
pub one-more : (v : ℕ) (t : List ℕ) → IsText v t → (i : ℕ) → i < length t → (xs : List Symbol) →
    xs ++ symbols_from t i ≡ numeral_of v →
    xs ++ (digit_symbols (letters_of (length t - 1 - i)) (get_or t i 0 - 48) ++ symbols_from t (i + 1))
    ≡ numeral_of v
one-more v t e i h xs inv = ap (λ ys. xs ++ ys) (sym (symbols-step t (text-digits v t e) i h)) ∙ inv

pub all-digits : (t : List ℕ) (i : ℕ) → i ≡ length t → (xs n : List Symbol) →
    xs ++ symbols_from t i ≡ n → xs ≡ n
all-digits t i e xs n inv = sym (append-nil xs) ∙ ap (λ ys. xs ++ ys) (sym (symbols-end t i e)) ∙ inv
