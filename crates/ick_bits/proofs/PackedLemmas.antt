-- Words that are packed into numbers: the bytes are digits to the base 256, behind a 1.
use Rattle.std.proofs.Common.{◌≡◌, ℕ, zero, suc, ◌+◌, ◌*◌, ◌<◌, ◌≤◌, ◌≢◌, List, [], ◌∷◌, length, map}
use Rattle.std.proofs.Common.{refl, sym, ap, ◌∙◌, arith, Bool, true, false, ◌&&◌, cond, get_or, inl, inr, nat_eq}
use Rattle.std.proofs.Common.{Option, None, Some, drop, take, lit<}
use Rattle.std.specs.Prelude.{nat_le, nat_lt, not, ◌==◌, ◌||◌, bit_or}
use Rattle.std.specs.Char.{to_ascii_lowercase}
use Rattle.std.specs.Str.{bytes_eq, str_eq_ignore_ascii_case}
use Rattle.std.specs.List.{find, list_all}
use Rattle.std.specs.Option.{option_map}
use Rattle.std.specs.Int.Digits.{number_from_digits_after}
use Rattle.std.proofs.lemmas.Int.Digits.{number_after_append, number_after_ge}
use Rattle.std.proofs.lemmas.List.{length-map, map-append}
use Rattle.std.proofs.Math.Seq.{take-suc}
use Rattle.std.proofs.lemmas.Slice.Eq.{bytes_eq-Decides}
use Rattle.std.proofs.lemmas.Bool.{cases_Bool, cases_lt, or_cases, and_parts, not-true, eqb-true, eq-eqb, ne_eqb}
use Rattle.std.proofs.lemmas.Bool.{true≢false, false_from_ne_true, leb-true, ltb-true}
use Rattle.ick_bits.specs.Digits.{digit_in, digit_of, names}
use Rattle.ick_bits.proofs.TableLemmas.{true_below, true_at}

abbrev pub AreBytes : List ℕ → Type 0
AreBytes xs = (k : ℕ) → get_or xs k 0 < 256

abbrev pub pack : List ℕ → ℕ
pack xs = number_from_digits_after 256 1 xs

abbrev pub small : List ℕ → List ℕ
small word = map (λ b. bit_or b 32) word

-- one more byte
pub packed-more : (word : List ℕ) (k : ℕ) → k < length word →
    pack (small (take (k + 1) word)) ≡ pack (small (take k word)) * 256 + bit_or (get_or word k 0) 32
packed-more word k l =
    let more : k + 1 ≡ suc k = omega arith in
    let or = λ (b : ℕ). bit_or b 32 in
    rw (more, take-suc word k 0 l, map-append or (take k word) (get_or word k 0 ∷ []))
    (number_after_append 256 1 (small (take k word)) (or (get_or word k 0) ∷ []))

-- the shorter list is less
shorter : (xs ys : List ℕ) (a b : ℕ) → AreBytes xs → a < 256 * b → length xs < length ys →
    number_from_digits_after 256 a xs < number_from_digits_after 256 b ys
shorter [] [] a b k l h = absurd (omega arith)
shorter [] (y ∷ ys) a b k l h = omega (arith, number_after_ge 256 (b * 256 + y) ys (omega arith))
shorter (x ∷ xs) [] a b k l h = absurd (omega arith)
shorter (x ∷ xs) (y ∷ ys) a b k l h =
    let first : x < 256 = k 0 in
    shorter xs ys (a * 256 + x) (b * 256 + y) (λ j. k (suc j)) (omega arith) (omega arith)

-- lists of one length are told apart
equal : (xs ys : List ℕ) (a b : ℕ) → AreBytes xs → AreBytes ys → length xs ≡ length ys →
    number_from_digits_after 256 a xs ≡ number_from_digits_after 256 b ys → (a ≡ b) × (xs ≡ ys)
equal [] [] a b k l h e = (e, refl)
equal [] (y ∷ ys) a b k l h e = absurd (omega arith)
equal (x ∷ xs) [] a b k l h e = absurd (omega arith)
equal (x ∷ xs) (y ∷ ys) a b k l h e =
    let left : x < 256 = k 0 in
    let right : y < 256 = l 0 in
    let rest =
    equal xs ys (a * 256 + x) (b * 256 + y) (λ j. k (suc j)) (λ j. l (suc j))
    (omega arith) e in
    let both : a * 256 + x ≡ b * 256 + y = rest.0 in
    let first : x ≡ y = omega arith in
    (omega arith, ap (λ z. z ∷ xs) first ∙ ap (λ zs. y ∷ zs) rest.1)

packed-apart : (xs ys : List ℕ) → AreBytes xs → AreBytes ys → pack xs ≡ pack ys → xs ≡ ys
packed-apart xs ys k l e = elim (cases_lt (length xs) (length ys)) [
  | inl less ↦ absurd (omega (arith, shorter xs ys 1 1 k (lit< tt) less))
  | inr more ↦ elim (cases_lt (length ys) (length xs)) [
    | inl less ↦ absurd (omega (arith, shorter ys xs 1 1 l (lit< tt) less))
    | inr less ↦ (equal xs ys 1 1 k l (omega arith) e).1
  ]
]

-- and so one comparison of numbers compares the lists
packed-same : (xs ys : List ℕ) → AreBytes xs → AreBytes ys → bytes_eq xs ys ≡ (pack ys == pack xs)
packed-same xs ys k l =
    let same = bytes_eq-Decides xs ys in
    elim (cases_Bool (bytes_eq xs ys)) [
      | inl t ↦ t ∙ sym (eq-eqb (pack ys) (pack xs) (ap pack (sym (same.0 t))))
      | inr f ↦
          f ∙ sym (ne_eqb (pack ys) (pack xs)
          (λ e. true≢false (sym (same.1 (packed-apart xs ys k l (sym e))) ∙ f)))
    ]

-- a small letter
abbrev is_letter : ℕ → Bool
is_letter y = nat_le 97 y && nat_le y 122

-- the bit of small letters makes a byte small, or neither is a letter
abbrev same_letter : ℕ → Bool
same_letter b = nat_eq (bit_or b 32) (to_ascii_lowercase b)
    || (not (is_letter (bit_or b 32)) && not (is_letter (to_ascii_lowercase b)))

all-same : true_below same_letter 256 ≡ true
unfolding true_below
all-same = refl

all-below : true_below (λ b. nat_lt (bit_or b 32) 256) 256 ≡ true
unfolding true_below
all-below = refl

other : (y z : ℕ) → is_letter y ≡ true → is_letter z ≡ false → nat_eq z y ≡ false
other y z h n = ne_eqb z y (λ e. true≢false (sym h ∙ ap is_letter (sym e) ∙ n))

letter-same : (b y : ℕ) → b < 256 → is_letter y ≡ true → nat_eq (to_ascii_lowercase b) y ≡ nat_eq (bit_or b 32) y
letter-same b y l h = elim (or_cases (nat_eq (bit_or b 32) (to_ascii_lowercase b)) _ (true_at same_letter 256 all-same b l)) [
  | inl same ↦ ap (λ z. nat_eq z y) (sym (eqb-true (bit_or b 32) (to_ascii_lowercase b) same))
  | inr none ↦
      let both = and_parts (not (is_letter (bit_or b 32))) (not (is_letter (to_ascii_lowercase b))) none in
      other y (to_ascii_lowercase b) h (not-true (is_letter (to_ascii_lowercase b)) both.1)
      ∙ sym (other y (bit_or b 32) h (not-true (is_letter (bit_or b 32)) both.0))
]

-- both lists that are compared are bytes
pub or-byte : (b : ℕ) → b < 256 → bit_or b 32 < 256
or-byte b l = ltb-true (bit_or b 32) 256 (true_at (λ c. nat_lt (bit_or c 32) 256) 256 all-below b l)

small-bytes : (word : List ℕ) → AreBytes word → AreBytes (small word)
small-bytes [] k j = lit< tt
small-bytes (x ∷ xs) k zero = or-byte x (k 0)
small-bytes (x ∷ xs) k (suc j) = small-bytes xs (λ i. k (suc i)) j

letter-bytes : (letters : List ℕ) → list_all is_letter letters ≡ true → AreBytes letters
letter-bytes [] h j = lit< tt
letter-bytes (y ∷ ys) h zero =
    let both = and_parts (is_letter y) (list_all is_letter ys) h in
    let range = and_parts (nat_le 97 y) (nat_le y 122) both.0 in
    omega (arith, leb-true y 122 range.1)
letter-bytes (y ∷ ys) h (suc j) = letter-bytes ys (and_parts (is_letter y) (list_all is_letter ys) h).1 j

letters-same : (word letters : List ℕ) → AreBytes word → list_all is_letter letters ≡ true →
    bytes_eq (map to_ascii_lowercase word) letters ≡ bytes_eq (small word) letters
letters-same [] [] k h = refl
letters-same [] (y ∷ ys) k h = refl
letters-same (x ∷ xs) [] k h = refl
letters-same (x ∷ xs) (y ∷ ys) k h =
    let both = and_parts (is_letter y) (list_all is_letter ys) h in
    let first = letter-same x y (k 0) both.0 in
    let rest = letters-same xs ys (λ j. k (suc j)) both.1 in
    rw (first, rest) refl

-- a row of the table, packed
abbrev pub packed_row : List ℕ × ℕ → ℕ × ℕ
packed_row row = (pack (map to_ascii_lowercase row.0), row.1)

abbrev pub digit_packed : ℕ → List (ℕ × ℕ) → Option ℕ
digit_packed word rows = option_map (λ row. row.1) (find (λ row. row.0 == word) rows)

in-rows : (word : List ℕ) (rows : List (List ℕ × ℕ)) → AreBytes word →
    list_all (λ row. list_all is_letter (map to_ascii_lowercase row.0)) rows ≡ true →
    digit_in word rows ≡ digit_packed (pack (small word)) (map packed_row rows)
in-rows word [] k h = refl
in-rows word (row ∷ rows) k h =
    let letters = map to_ascii_lowercase row.0 in
    let both =
    and_parts (list_all is_letter letters) (list_all (λ r. list_all is_letter (map to_ascii_lowercase r.0)) rows) h in
    let same : str_eq_ignore_ascii_case word row.0 ≡ nat_eq (pack letters) (pack (small word)) =
    letters-same word letters k both.0 ∙ packed-same (small word) letters (small-bytes word k)
    (letter-bytes letters both.0) in
    rw same (elim (nat_eq (pack letters) (pack (small word))) as
    (λ t. option_map (λ r. r.1) (cond t (Some row) (find (λ r. str_eq_ignore_ascii_case word r.0) rows))
    ≡ option_map (λ r. r.1)
    (cond t (Some (packed_row row)) (find (λ r. r.0 == pack (small word)) (map packed_row rows)))) [
      | true ↦ refl
      | false ↦ in-rows word rows k both.1
    ])

-- the digit of a word is that of its number in the packed table
pub digit-packed : (word : List ℕ) → AreBytes word →
    digit_of word ≡ digit_packed (pack (small word)) (map packed_row names)
unfolding digit_of
digit-packed word k = in-rows word names k refl

-- a word longer than each name
long-in : (word : List ℕ) (rows : List (List ℕ × ℕ)) → 5 < length word →
    list_all (λ row. nat_le (length row.0) 5) rows ≡ true → digit_in word rows ≡ None
long-in word [] l h = refl
long-in word (row ∷ rows) l h =
    let both = and_parts (nat_le (length row.0) 5) (list_all (λ r. nat_le (length r.0) 5) rows) h in
    let apart : str_eq_ignore_ascii_case word row.0 ≡ false =
    false_from_ne_true (str_eq_ignore_ascii_case word row.0)
    (λ t.
    let e = (bytes_eq-Decides (map to_ascii_lowercase word) (map to_ascii_lowercase row.0)).0 t in
    absurd (omega (
      arith,
      ap length e,
      length-map word to_ascii_lowercase,
      length-map row.0 to_ascii_lowercase,
      leb-true (length row.0) 5 both.0,
    ))) in
    rw apart (long-in word rows l both.1)

pub digit-long : (word : List ℕ) → 5 < length word → digit_of word ≡ None
unfolding digit_of
digit-long word l = long-in word names l refl

-- a row of the packed table that has another word
pub packed-past : (word : ℕ) (rows : List (ℕ × ℕ)) (i : ℕ) → i < length rows →
    (get_or rows i (0, 0)).0 ≢ word →
    digit_packed word (drop i rows) ≡ digit_packed word (drop (i + 1) rows)
packed-past word [] i h n = absurd (omega arith)
packed-past word (row ∷ rows) zero h n = rw (ne_eqb row.0 word n) refl
packed-past word (row ∷ rows) (suc i) h n = let more : suc i + 1 ≡ suc (i + 1) = omega arith in
    rw more (packed-past word rows i (omega arith) n)

-- the row that has it
pub packed-here : (word : ℕ) (rows : List (ℕ × ℕ)) (i : ℕ) → i < length rows →
    (get_or rows i (0, 0)).0 ≡ word → digit_packed word (drop i rows) ≡ Some (get_or rows i (0, 0)).1
packed-here word [] i h e = absurd (omega arith)
packed-here word (row ∷ rows) zero h e = rw (eq-eqb row.0 word e) refl
packed-here word (row ∷ rows) (suc i) h e = packed-here word rows i (omega arith) e

-- past the last row
pub packed-nowhere : (word : ℕ) (rows : List (ℕ × ℕ)) (i : ℕ) → length rows ≤ i →
    digit_packed word (drop i rows) ≡ None
packed-nowhere word [] zero h = refl
packed-nowhere word [] (suc i) h = refl
packed-nowhere word (row ∷ rows) zero h = absurd (omega arith)
packed-nowhere word (row ∷ rows) (suc i) h = packed-nowhere word rows i (omega arith)
