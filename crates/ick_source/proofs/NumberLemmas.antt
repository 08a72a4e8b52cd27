-- Numbers, digit by digit.
use Rattle.std.proofs.Common.{◌≡◌, ℕ, ◌+◌, ◌-◌, ◌*◌, ◌^◌, ◌<◌, Bool, true, false, List, []}
use Rattle.std.proofs.Common.{◌∷◌, ◌++◌, length, length-append, refl, sym, ap, subst, ◌∙◌, arith}
use Rattle.std.proofs.Math.Nat.{add-mul, mul_assoc, pow-succ'}
use Rattle.std.proofs.lemmas.Bool.{and_parts}
use Rattle.std.specs.Prelude.{cond}
use Rattle.std.specs.List.{list_all}
use Rattle.ick_source.specs.Position.{past_white}
use Rattle.ick_source.specs.Token.{is_digit, begins_number, value_of_digits, IsNumber, digits}
use Rattle.ick_source.specs.Reading.{digits_of, past_digits, value_after}

value-after : (ds : List ℕ) (n : ℕ) → value_after n ds ≡ n * 10 ^ length ds + value_of_digits ds
unfolding value_after value_of_digits
value-after [] n = omega arith
value-after (d ∷ ds) n =
    let power = 10 ^ length ds in
    let shifted : n * (10 ^ length (d ∷ ds)) ≡ n * (10 * power) = ap (λ q. n * q) (pow-succ' 10 (length ds)) in
    value-after ds (n * 10 + (d - 48)) ∙ omega (arith, shifted, add-mul (n * 10) (d - 48) power, mul_assoc n 10 power)

pub value-is : (ds : List ℕ) → value_after 0 ds ≡ value_of_digits ds
value-is ds = value-after ds 0 ∙ omega arith

digits-split : (l : List ℕ) → l ≡ digits_of l ++ past_digits l
unfolding digits_of past_digits
digits-split [] = refl
digits-split (b ∷ l) =
    elim (is_digit b) as (λ d. b ∷ l ≡ cond d (b ∷ digits_of l) []
    ++ cond d (past_digits l) (b ∷ l)) [ true ↦ ap (λ x. b ∷ x) (digits-split l) | false ↦ refl ]

pub digits-all : (l : List ℕ) → list_all is_digit (digits_of l) ≡ true
unfolding digits_of
digits-all [] = refl
digits-all (b ∷ l) = all_by l b (is_digit b) refl (digits-all l)
  where
    all_by : (l : List ℕ) (b : ℕ) (d : Bool) → is_digit b ≡ d → list_all is_digit (digits_of l) ≡ true →
        list_all is_digit (cond d (b ∷ digits_of l) []) ≡ true
    all_by l b true e f = rw (e, f) refl
    all_by l b false e f = refl

digits-end : (l : List ℕ) → begins_number (past_digits l) ≡ false
unfolding past_digits
digits-end [] = refl
digits-end (b ∷ l) = end_by b l (is_digit b) refl (digits-end l)
  where
    end_by : (b : ℕ) (l : List ℕ) (d : Bool) → is_digit b ≡ d → begins_number (past_digits l) ≡ false →
        begins_number (cond d (past_digits l) (b ∷ l)) ≡ false
    end_by b l true e f = f
    end_by b l false e f = e

digits-some : (l : List ℕ) → begins_number l ≡ true → 0 < length (digits_of l)
unfolding digits_of
digits-some [] e = absurd (cc)
digits-some (b ∷ l) e = rw e (omega arith)

pub number_there : (from : List ℕ) → begins_number (past_white from) ≡ true →
    IsNumber from (past_digits (past_white from)) (value_after 0 (digits_of (past_white from)))
number_there from e =
    let l = past_white from in
    subst (IsNumber from (past_digits l)) (sym (value-is (digits_of l)))
    (digits (digits_of l) (digits-split l) (digits-some l e) (digits-all l) (digits-end l))

-- digits and what begins with none are told apart in one way
digits-unique : (ds to : List ℕ) → list_all is_digit ds ≡ true →
    begins_number to ≡ false → (digits_of (ds ++ to) ≡ ds) × (past_digits (ds ++ to) ≡ to)
unfolding digits_of past_digits
digits-unique [] [] all e = (refl, refl)
digits-unique [] (b ∷ to) all e = (rw e refl, rw e refl)
digits-unique (d ∷ ds) to all e =
    let r = digits-unique ds to (and_parts (is_digit d) (list_all is_digit ds) all).1 e in
    let digit = (and_parts (is_digit d) (list_all is_digit ds) all).0 in
    (rw (digit, r.0) refl, rw (digit, r.1) refl)

front : (ds to : List ℕ) → 0 < length ds → list_all is_digit ds ≡ true → begins_number (ds ++ to) ≡ true
front [] to some all = absurd (omega arith)
front (d ∷ ds) to some all = (and_parts (is_digit d) (list_all is_digit ds) all).0

pub number-begins : {from to : List ℕ} {n : ℕ} → IsNumber from to n → begins_number (past_white from) ≡ true
number-begins {to = to} (digits ds e some all ends) = ap begins_number e ∙ front ds to some all

pub number-ends : {from to : List ℕ} {n : ℕ} → IsNumber from to n → to ≡ past_digits (past_white from)
number-ends {to = to} (digits ds e some all ends) = sym (ap past_digits e ∙ (digits-unique ds to all ends).1)

pub number-value : {from to : List ℕ} {n : ℕ} → IsNumber from to n →
    n ≡ value_after 0 (digits_of (past_white from))
number-value {to = to} (digits ds e some all ends) =
    sym (value-is ds) ∙ ap (value_after 0) (sym (ap digits_of e ∙ (digits-unique ds to all ends).0))

pub number-shorter : {from to : List ℕ} {n : ℕ} → IsNumber from to n → length to < length (past_white from)
number-shorter {to = to} (digits ds e some all ends) = omega (arith, ap length e, length-append ds to)
