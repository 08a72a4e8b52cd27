-- The rows of the tables are held against the symbols of each digit at each place, by computing.
use Rattle.std.proofs.Common.{◌≡◌, ℕ, zero, suc, ◌+◌, ◌*◌, ◌/◌, ◌%◌, ◌<◌, List, [], Bool, true}
use Rattle.std.proofs.Common.{length, map, take, get_or, refl, arith}
use Rattle.std.specs.Str.{bytes_eq}
use Rattle.std.proofs.lemmas.Slice.Eq.{bytes_eq-Decides}
use Rattle.ick_bits.specs.declared.numerals.Symbol.{Symbol}
use Rattle.ick_bits.specs.declared.numerals.Letters.{Letters}
use Rattle.ick_bits.specs.Numeral.{place_symbols, digit_symbols, bar_line}
use Rattle.ick_bits.specs.declared.rows.TheConstants.{COUNTS, INKED}
use Rattle.ick_bits.proofs.TableLemmas.{true_below, true_at, agree_at}

-- the row that a table has of a digit at a place
abbrev pub row_in : List (List (List ℕ)) → ℕ → ℕ → List ℕ
row_in table place digit = get_or (get_or table place []) digit []

-- whether the row begins with the bytes of the digit's symbols
abbrev pub is_row : List (List (List ℕ)) → (Symbol → ℕ) → ℕ → ℕ → Bool
is_row table f place digit =
    bytes_eq (take (length (place_symbols place digit)) (row_in table place digit)) (map f (place_symbols place digit))

-- the same for each digit at each of the places
abbrev pub are_rows : List (List (List ℕ)) → (Symbol → ℕ) → Bool
are_rows table f = true_below (λ i. is_row table f (i / 10) (i % 10)) 100

pub row-right : (table : List (List (List ℕ))) (f : Symbol → ℕ) → are_rows table f ≡ true →
    (place digit : ℕ) → place < 10 → digit < 10 →
    take (length (place_symbols place digit)) (row_in table place digit) ≡ map f (place_symbols place digit)
row-right table f all place digit p d =
    let high : (place * 10 + digit) / 10 ≡ place = omega arith in
    let low : (place * 10 + digit) % 10 ≡ digit = omega arith in
    let at = true_at (λ i. is_row table f (i / 10) (i % 10)) 100 all (place * 10 + digit) (omega arith) in
    (bytes_eq-Decides (take (length (place_symbols place digit)) (row_in table place digit))
    (map f (place_symbols place digit))).0 (rw (high, low) at at)

pub inked-right : (place digit : ℕ) → place < 10 → digit < 10 →
    get_or (get_or INKED place []) digit 0 ≡ length (bar_line (place_symbols place digit))
unfolding true_below digit_symbols bar_line
inked-right place digit p d =
    let high : (place * 10 + digit) / 10 ≡ place = omega arith in
    let low : (place * 10 + digit) % 10 ≡ digit = omega arith in
    let at =
    agree_at (λ i. get_or (get_or INKED (i / 10) []) (i % 10) 0)
    (λ i. length (bar_line (place_symbols (i / 10) (i % 10)))) 100 refl (place * 10 + digit) (omega arith) in
    rw (high, low) at at

-- the last three digits of a number have no bar
pub none-inked : (place digit : ℕ) → place < 3 → digit < 10 → length (bar_line (place_symbols place digit)) ≡ 0
unfolding true_below digit_symbols bar_line
none-inked place digit p d =
    let high : (place * 10 + digit) / 10 ≡ place = omega arith in
    let low : (place * 10 + digit) % 10 ≡ digit = omega arith in
    let at =
    agree_at (λ i. length (bar_line (place_symbols (i / 10) (i % 10)))) (λ i. 0) 30 refl (place * 10 + digit)
    (omega arith) in
    rw (high, low) at at

-- a digit has as many symbols at each place
pub count-right : (letters : Letters) (digit : ℕ) → digit < 10 →
    get_or COUNTS digit 0 ≡ length (digit_symbols letters digit)
unfolding digit_symbols
count-right p zero h = refl
count-right p (suc zero) h = refl
count-right p (suc (suc zero)) h = refl
count-right p (suc (suc (suc zero))) h = refl
count-right p (suc (suc (suc (suc zero)))) h = refl
count-right p (suc (suc (suc (suc (suc zero))))) h = refl
count-right p (suc (suc (suc (suc (suc (suc zero)))))) h = refl
count-right p (suc (suc (suc (suc (suc (suc (suc zero))))))) h = refl
count-right p (suc (suc (suc (suc (suc (suc (suc (suc zero)))))))) h = refl
count-right p (suc (suc (suc (suc (suc (suc (suc (suc (suc zero))))))))) h = refl
count-right p (suc (suc (suc (suc (suc (suc (suc (suc (suc (suc d)))))))))) h = absurd (omega arith)
