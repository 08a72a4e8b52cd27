-- The significant digits of a number: what they are at a position, and that no two numbers have the same ones.
use Rattle.std.proofs.Common.{◌≡◌, ℕ, zero, suc, ◌+◌, ◌-◌, ◌*◌, ◌^◌, ◌<◌, ◌≤◌, Bool, true, false, List, [], ◌∷◌, ◌++◌}
use Rattle.std.proofs.Common.{length, drop, get_or, slice_range, refl, sym, ap, ◌∙◌, arith, add-one, drop-cons, nat_eq, nat_le}
use Rattle.std.proofs.Common.{drop_of_length-le, append_assoc, inl, inr, ◌⊎◌, cond}
use Rattle.std.proofs.Math.Nat.{pow-succ', mul-le-mul_right, add-mul}
use Rattle.std.proofs.lemmas.Bool.{and_parts, cases_order, cases_lt}
use Rattle.std.proofs.lemmas.Bool.Decides.{nat_tests}
use Rattle.std.proofs.lemmas.List.{append-nil}
use Rattle.std.specs.List.{list_all}
use Rattle.ick_source.specs.Bytes.{byte, IsDigit, IsNumberIn}
use Rattle.ick_source.specs.Digits.{significant, Spells}
use Rattle.ick_source.specs.Reading.{digits_of}
use Rattle.ick_source.specs.Token.{is_digit, value_of_digits}
use Rattle.ick_source.proofs.ByteLemmas.{slice_more}
use Rattle.ick_source.proofs.NumberLemmas.{digits-all}

pub zero_step : (text : List ℕ) (at : ℕ) → at < length text → byte text at ≡ 48 →
    significant (digits_of (drop at text)) ≡ significant (digits_of (drop (at + 1) text))
unfolding digits_of significant is_digit
zero_step text at lt e = rw (drop-cons text at 0 lt, add-one, e) refl

pub zero_end : (text : List ℕ) (at : ℕ) → (byte text at ≡ 48 → ⊥) →
    significant (digits_of (drop at text)) ≡ digits_of (drop at text)
unfolding digits_of significant
zero_end text at n = by_case (cases_lt at (length text))
  where
    by_test : (b : ℕ) (l : List ℕ) → (b ≡ 48 → ⊥) → (t : Bool) → is_digit b ≡ t →
        significant (cond t (b ∷ digits_of l) []) ≡ cond t (b ∷ digits_of l) []
    by_test b l n true e = let no : nat_eq b 48 ≡ false = grind (arith, nat_tests, n) in rw no refl
    by_test b l n false e = refl

    by_case : (at < length text) ⊎ (length text ≤ at) →
        significant (digits_of (drop at text)) ≡ digits_of (drop at text)
    by_case (inl lt) = rw (drop-cons text at 0 lt) (by_test (get_or text at 0) (drop (suc at) text) n _ refl)
    by_case (inr le) = rw (drop_of_length-le text le) refl

digit_step : (text : List ℕ) (at : ℕ) → at < length text → is_digit (byte text at) ≡ true →
    digits_of (drop at text) ≡ byte text at ∷ digits_of (drop (at + 1) text)
unfolding digits_of
digit_step text at lt e = rw (drop-cons text at 0 lt, add-one, e) refl

pub digit_more : (text : List ℕ) (from to : ℕ) → from ≤ to → to < length text → is_digit (byte text to) ≡ true →
    slice_range text from to ++ digits_of (drop to text) ≡ digits_of (drop from text) →
    slice_range text from (to + 1) ++ digits_of (drop (to + 1) text) ≡ digits_of (drop from text)
digit_more text from to order lt e h =
    ap (λ l. l ++ digits_of (drop (to + 1) text)) (slice_more text from to order lt)
    ∙ append_assoc (slice_range text from to) (byte text to ∷ []) (digits_of (drop (to + 1) text))
    ∙ ap (λ l. slice_range text from to ++ l) (sym (digit_step text to lt e)) ∙ h

pub digit_end : (text : List ℕ) (at : ℕ) → is_digit (byte text at) ≡ false → digits_of (drop at text) ≡ []
unfolding digits_of
digit_end text at e = by_case (cases_lt at (length text))
  where
    by_case : (at < length text) ⊎ (length text ≤ at) → digits_of (drop at text) ≡ []
    by_case (inl lt) = rw (drop-cons text at 0 lt, e) refl
    by_case (inr le) = rw (drop_of_length-le text le) refl

-- all digits between two positions, behind which none is
pub digits_between : (text : List ℕ) (from to : ℕ) → is_digit (byte text to) ≡ false →
    slice_range text from to ++ digits_of (drop to text) ≡ digits_of (drop from text) →
    slice_range text from to ≡ digits_of (drop from text)
digits_between text from to e h =
    sym (append-nil (slice_range text from to)) ∙ ap (λ l. slice_range text from to ++ l) (sym (digit_end text to e)) ∙ h

significant_value : (ds : List ℕ) → value_of_digits (significant ds) ≡ value_of_digits ds
unfolding significant value_of_digits
significant_value [] = refl
significant_value (d ∷ ds) = by_test d ds (nat_eq d 48) refl (significant_value ds)
  where
    by_test : (d : ℕ) (ds : List ℕ) (t : Bool) → nat_eq d 48 ≡ t →
        value_of_digits (significant ds) ≡ value_of_digits ds →
        value_of_digits (cond t (significant ds) (d ∷ ds)) ≡ (d - 48) * 10 ^ length ds + value_of_digits ds
    by_test d ds true e h = let same : d ≡ 48 = grind (arith, nat_tests) in rw same (h ∙ omega arith)
    by_test d ds false e h = refl

significant_all : (ds : List ℕ) → list_all is_digit ds ≡ true → list_all is_digit (significant ds) ≡ true
unfolding significant
significant_all [] e = refl
significant_all (d ∷ ds) e =
    by_test d ds (nat_eq d 48) e (significant_all ds (and_parts (is_digit d) (list_all is_digit ds) e).1)
  where
    by_test : (d : ℕ) (ds : List ℕ) (t : Bool) → list_all is_digit (d ∷ ds) ≡ true →
        list_all is_digit (significant ds) ≡ true → list_all is_digit (cond t (significant ds) (d ∷ ds)) ≡ true
    by_test d ds true e h = h
    by_test d ds false e h = e

significant_again : (ds : List ℕ) → significant (significant ds) ≡ significant ds
unfolding significant
significant_again [] = refl
significant_again (d ∷ ds) = by_test d ds (nat_eq d 48) refl (significant_again ds)
  where
    by_test : (d : ℕ) (ds : List ℕ) (t : Bool) → nat_eq d 48 ≡ t →
        significant (significant ds) ≡ significant ds →
        significant (cond t (significant ds) (d ∷ ds)) ≡ cond t (significant ds) (d ∷ ds)
    by_test d ds true e h = h
    by_test d ds false e h = rw e refl

pub spells : (ds : List ℕ) → list_all is_digit ds ≡ true → Spells (significant ds) (value_of_digits ds)
spells ds e = record {
  all = significant_all ds e;
  significant = significant_again ds;
  value = significant_value ds;
}

below_power : (ds : List ℕ) → list_all is_digit ds ≡ true → value_of_digits ds < 10 ^ length ds
unfolding value_of_digits is_digit
below_power [] e = omega arith
below_power (d ∷ ds) e =
    let parts = and_parts (is_digit d) (list_all is_digit ds) e in
    let low : d - 48 ≤ 9 = grind (arith, nat_tests, parts.0) in
    let most : (d - 48) * 10 ^ length ds ≤ 9 * 10 ^ length ds = mul-le-mul_right (10 ^ length ds) low in
    let less = below_power ds parts.1 in
    rw (pow-succ' 10 (length ds)) (omega (arith, most, less))

-- a value below a power of ten and a multiple of the power are told apart in one way
quotients : (a b p r s : ℕ) → r < p → s < p → a * p + r ≡ b * p + s → (a ≡ b) × (r ≡ s)
quotients a b p r s x y e = by_order (cases_order a b)
  where
    apart : (a b r s : ℕ) → a < b → r < p → a * p + r ≡ b * p + s → ⊥
    apart a b r s lt x e =
        let more : (a + 1) * p ≤ b * p = mul-le-mul_right p (omega (arith, lt)) in
        omega (arith, more, x, e, add-mul a 1 p)

    by_order : (a ≡ b) ⊎ ((a < b) ⊎ (b < a)) → (a ≡ b) × (r ≡ s)
    by_order (inl same) = (same, let f : a * p ≡ b * p = ap (λ z. z * p) same in omega (arith, f, e))
    by_order (inr (inl lt)) = absurd (apart a b r s lt x e)
    by_order (inr (inr gt)) = absurd (apart b a s r gt y (sym e))

digit_back : (d e : ℕ) → is_digit d ≡ true → is_digit e ≡ true → d - 48 ≡ e - 48 → d ≡ e
unfolding is_digit
digit_back d e p q h = grind (arith, nat_tests, p, q, h)

same_long : (ds es : List ℕ) → list_all is_digit ds ≡ true → list_all is_digit es ≡ true → length ds ≡ length es →
    value_of_digits ds ≡ value_of_digits es → ds ≡ es
unfolding value_of_digits
same_long [] [] p q long e = refl
same_long [] (y ∷ ys) p q long e = absurd (omega (arith, long))
same_long (x ∷ xs) [] p q long e = absurd (omega (arith, long))
same_long (x ∷ xs) (y ∷ ys) p q long e =
    let a = and_parts (is_digit x) (list_all is_digit xs) p in
    let b = and_parts (is_digit y) (list_all is_digit ys) q in
    let rest : length xs ≡ length ys = omega (arith, long) in
    let power : 10 ^ length ys ≡ 10 ^ length xs = ap (λ n. 10 ^ n) (sym rest) in
    let low : value_of_digits ys < 10 ^ length xs = rw (sym power) (below_power ys b.1) in
    let scaled : (y - 48) * 10 ^ length ys ≡ (y - 48) * 10 ^ length xs = ap (λ n. (y - 48) * n) power in
    let one = quotients (x - 48) (y - 48) (10 ^ length xs) (value_of_digits xs) (value_of_digits ys) (below_power xs a.1) low
    (e ∙ omega (arith, scaled)) in
    let first = digit_back x y a.0 b.0 one.0 in
    let others = same_long xs ys a.1 b.1 rest one.1 in
    λ i. first i ∷ others i

shorter : (ds : List ℕ) → length (significant ds) ≤ length ds
unfolding significant
shorter [] = omega arith
shorter (d ∷ ds) = by_test d ds (nat_eq d 48) (shorter ds)
  where
    by_test : (d : ℕ) (ds : List ℕ) (t : Bool) → length (significant ds) ≤ length ds →
        length (cond t (significant ds) (d ∷ ds)) ≤ length (d ∷ ds)
    by_test d ds true h = omega (arith, h)
    by_test d ds false h = omega arith

first_digit : (d : ℕ) (ds : List ℕ) → is_digit d ≡ true → significant (d ∷ ds) ≡ d ∷ ds → 1 ≤ d - 48
unfolding significant is_digit
first_digit d ds p s = by_test (nat_eq d 48) refl s
  where
    by_test : (t : Bool) → nat_eq d 48 ≡ t → cond t (significant ds) (d ∷ ds) ≡ d ∷ ds → 1 ≤ d - 48
    by_test true e s = absurd (let short = shorter ds in let f = ap length s in omega (arith, short, f))
    by_test false e s = grind (arith, nat_tests, p, e)

-- the number of digits with no zero before them is not below its power of ten
above_power : (d : ℕ) (ds : List ℕ) → list_all is_digit (d ∷ ds) ≡ true → significant (d ∷ ds) ≡ d ∷ ds →
    10 ^ length ds ≤ value_of_digits (d ∷ ds)
unfolding value_of_digits
above_power d ds e s =
    let parts = and_parts (is_digit d) (list_all is_digit ds) e in
    let one : 1 ≤ d - 48 = first_digit d ds parts.0 s in
    let least : 1 * 10 ^ length ds ≤ (d - 48) * 10 ^ length ds = mul-le-mul_right (10 ^ length ds) one in
    omega (arith, least)

-- fewer digits, with no zero before the others, are a lower number
shorter_less : (ds es : List ℕ) → list_all is_digit ds ≡ true → list_all is_digit es ≡ true → significant es ≡ es →
    length ds < length es → value_of_digits ds < value_of_digits es
shorter_less ds [] p q s lt = absurd (omega (arith, lt))
shorter_less ds (e ∷ es) p q s lt =
    let low = below_power ds p in
    let high = above_power e es q s in
    let between : 10 ^ length ds ≤ 10 ^ length es = powers (length ds) (length es) (omega (arith, lt)) in
    omega (arith, low, high, between)
  where
    powers : (a b : ℕ) → a ≤ b → 10 ^ a ≤ 10 ^ b
    powers a zero le = let none : a ≡ 0 = omega (arith, le) in rw none (omega arith)
    powers a (suc b) le = elim (cases_order a (suc b)) [
      | inl same ↦ rw same (omega arith)
      | inr (inl lt) ↦ let ih = powers a b (omega (arith, lt)) in rw (pow-succ' 10 b) (omega (arith, ih))
      | inr (inr gt) ↦ absurd (omega (arith, gt, le))
    ]

-- a number has one spelling
pub one_spelling : (ds es : List ℕ) (m n : ℕ) → Spells ds m → Spells es n → m ≡ n → ds ≡ es
one_spelling ds es m n p q e =
    let same : value_of_digits ds ≡ value_of_digits es = p.value ∙ e ∙ sym q.value in
    elim (cases_order (length ds) (length es)) [
      | inl long ↦ same_long ds es p.all q.all long same
      | inr (inl lt) ↦ absurd (let less = shorter_less ds es p.all q.all q.significant lt in omega (arith, less, same))
      | inr (inr gt) ↦ absurd (let less = shorter_less es ds q.all p.all p.significant gt in omega (arith, less, same))
    ]

-- a spelling is of one number
pub one_spelled : (ds es : List ℕ) (m n : ℕ) → Spells ds m → Spells es n → ds ≡ es → m ≡ n
one_spelled ds es m n p q e = sym p.value ∙ ap value_of_digits e ∙ q.value
