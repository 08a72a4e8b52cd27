-- A typed getter reads the number that the text writes.
use Rattle.std.proofs.Common.{◌≡◌, ◌^◌, ◌&&◌, ℕ, Bool, List, [], ◌∷◌, true, false, refl, ap}
use Rattle.std.proofs.Common.{ap₂, Option, Some, None, Result, Ok, Err, length, nat_lt, if◌then◌else◌}
use Rattle.std.proofs.lemmas.Bool.{ltb-true, lt-ltb}
use Rattle.std.specs.List.{list_all}
use Rattle.std.specs.Prelude.{option_and_then}
use Rattle.std.specs.Result.{result_ok}
use Rattle.std.specs.Char.{digit_value}
use Rattle.std.specs.Str.Parse.{AllDigits, IsNumeral, ParsesUnsigned, digits_value, without_leading_plus}
use Rattle.clap.specs.ValueTests.{is_numeral}
use Rattle.clap.specs.Words.{ReadsOne}
use Rattle.ick_job.specs.Values.{parsed_number}

both : (a b : Bool) → (a && b) ≡ true → (a ≡ true) × (b ≡ true)
both true b e = (refl, e)
both false b e = absurd (cc)

digits_pass : (ds : List ℕ) → AllDigits 10 ds → list_all (λ d. nat_lt (digit_value d) 10) ds ≡ true
digits_pass [] h = refl
digits_pass (d ∷ ds) h = rw (lt-ltb (digit_value d) 10 h.0) (digits_pass ds h.1)

digits_from : (ds : List ℕ) → list_all (λ d. nat_lt (digit_value d) 10) ds ≡ true → AllDigits 10 ds
digits_from [] e = tt
digits_from (d ∷ ds) e = let parts = both _ _ e in (ltb-true _ _ parts.0, digits_from ds parts.1)

numeral_passes : (ds : List ℕ) → IsNumeral 10 ds → is_numeral ds ≡ true
numeral_passes ds h = ap₂ (λ (a b : Bool). a && b) (lt-ltb 0 (length ds) h.0) (digits_pass ds h.1)

numeral_from : (ds : List ℕ) → is_numeral ds ≡ true → IsNumeral 10 ds
numeral_from ds e = let parts = both _ _ e in (ltb-true _ _ parts.0, digits_from ds parts.1)

-- the digits, where the test passes
chosen : (b : Bool) (v : ℕ) (r : Option ℕ) → (b ≡ true → r ≡ Some v) → (b ≡ false → r ≡ None)
    → r ≡ (if b then Some v else None)
chosen true v r passes fails = passes refl
chosen false v r passes fails = fails refl

some_read : (k : ℕ) (E : Type 0) (t : List ℕ) (r : Result ℕ E) → ParsesUnsigned k 10 t r →
    result_ok r ≡ parsed_number k t
some_read k E t (Ok x) h =
    let digits : List ℕ = without_leading_plus t in
    chosen (is_numeral digits && nat_lt (digits_value 10 digits) (2 ^ k)) (digits_value 10 digits) (Some x)
    (λ _. ap (λ (v : ℕ). Some v) h.1)
    (λ e. let yes : (is_numeral digits && nat_lt (digits_value 10 digits) (2 ^ k)) ≡ true =
    ap₂ (λ (a b : Bool). a && b) (numeral_passes digits h.0.0) (lt-ltb _ _ h.0.1) in absurd (cc))
some_read k E t (Err e) h =
    let digits : List ℕ = without_leading_plus t in
    chosen (is_numeral digits && nat_lt (digits_value 10 digits) (2 ^ k)) (digits_value 10 digits) None
    (λ e. let parts = both _ _ e in absurd (h (numeral_from digits parts.0, ltb-true _ _ parts.1)))
    (λ _. refl)

read_one : (k : ℕ) (E : Type 0) (gives : List ℕ → Result ℕ E → Type 0) (t : List ℕ) (r : Option ℕ)
    → ((u : List ℕ) (x : Result ℕ E) → gives u x → ParsesUnsigned k 10 u x) → ReadsOne gives t r →
    r ≡ parsed_number k t
read_one k E gives t (Some v) reads h = some_read k E t (Ok v) (reads t (Ok v) h)
read_one k E gives t None reads h = some_read k E t (Err h.0) (reads t (Err h.0) h.1)

-- what a typed getter answers, by the text that it reads
pub read_number : (k : ℕ) (E : Type 0) (gives : List ℕ → Result ℕ E → Type 0) (f : Option (List ℕ))
    (r : Option ℕ)
    → ((u : List ℕ) (x : Result ℕ E) → gives u x → ParsesUnsigned k 10 u x)
    → (f ≡ None → r ≡ None) → ((t : List ℕ) → f ≡ Some t → ReadsOne gives t r)
    → r ≡ option_and_then (parsed_number k) f
read_number k E gives None r reads none some = none refl
read_number k E gives (Some t) r reads none some = read_one k E gives t r reads (some t refl)
