-- A line one place further, and its answer.
use Rattle.std.proofs.Common.{◌≡◌, ℕ, zero, suc, ◌+◌, ◌-◌, ◌*◌, ◌<◌, ◌≤◌, List, []}
use Rattle.std.proofs.Common.{◌∷◌, ◌++◌, length, map, refl, ap, arith, ◌∙◌, Bool, true, false, min}
use Rattle.std.proofs.Common.{Option, None, Some, Ok, Err, drop, inl, inr, length-take, length-drop}
use Rattle.std.proofs.Common.{append-nil, cond, get_or, drop-cons}
use Rattle.std.specs.Prelude.{is_none, unwrap_or, nat_eq, nat_lt, not, slice_range}
use Rattle.std.specs.List.{filter, find, range_with_len, position_or_len}
use Rattle.std.specs.Int.Digits.{number_from_digits}
use Rattle.std.proofs.lemmas.Int.Digits.{number_push}
use Rattle.std.proofs.lemmas.List.{map-append}
use Rattle.std.proofs.lemmas.List.Elements.{filter-append}
use Rattle.std.proofs.lemmas.List.Folds.{find-append}
use Rattle.std.proofs.lemmas.List.{get_or-drop}
use Rattle.std.proofs.lemmas.List.Sums.{fails_before_first, passes_at_first}
use Rattle.std.proofs.lemmas.Bool.{cases_Bool, and_parts, and_right, or_right, not-true, ne_eqb}
use Rattle.std.proofs.lemmas.Bool.Decides.{nat_tests}
use Rattle.ick_bits.specs.declared.digits.DigitFault.TheVariants.{Word, TooLarge}
use Rattle.ick_bits.specs.White.{is_white_byte}
use Rattle.ick_bits.specs.Digits.{begins_word, word_at, digit_at, beginnings, first_unknown, number_of_words}
use Rattle.ick_bits.specs.Digits.{line_answer}

-- a word has a byte at least
pub ink_first : (line : List ℕ) (i : ℕ) → i < length line → begins_word line i ≡ true →
    0 < position_or_len is_white_byte (drop i line)
unfolding begins_word
ink_first line i l h =
    let ink : is_white_byte (get_or line i 0) ≡ false =
    not-true (is_white_byte (get_or line i 0)) (and_parts (not (is_white_byte (get_or line i 0))) _ h).0 in
    rw (drop-cons line i 0 l, ink) (omega arith)

-- no word begins at a white byte
pub white-begins-none : (line : List ℕ) (i : ℕ) → is_white_byte (get_or line i 0) ≡ true → begins_word line i ≡ false
unfolding begins_word
white-begins-none line i w = rw w refl

-- ink begins a word at the front, and behind a white byte
pub front-begins : (line : List ℕ) → is_white_byte (get_or line 0 0) ≡ false → begins_word line 0 ≡ true
unfolding begins_word
front-begins line w = rw w refl

pub white-before : (line : List ℕ) (i : ℕ) → is_white_byte (get_or line i 0) ≡ true →
    is_white_byte (get_or line (i + 1) 0) ≡ false → begins_word line (i + 1) ≡ true
unfolding begins_word
white-before line i w n = let back : i + 1 - 1 ≡ i = omega arith in rw (n, back, w) (or_right (nat_eq (i + 1) 0) true refl)

-- but not behind ink
ink-before : (line : List ℕ) (i : ℕ) → is_white_byte (get_or line i 0) ≡ false → begins_word line (i + 1) ≡ false
unfolding begins_word
ink-before line i w =
    let back : i + 1 - 1 ≡ i = omega arith in
    let first : nat_eq (i + 1) 0 ≡ false = ne_eqb (i + 1) 0 (λ e. absurd (omega arith)) in
    rw (back, w, first) (and_right (not (is_white_byte (get_or line (i + 1) 0))) false refl)

-- what a loop has seen of the positions below n
unfoldable pub beginnings_below : List ℕ → ℕ → List ℕ
beginnings_below line n = filter (begins_word line) (range_with_len 0 n)

unfoldable pub unknown_below : List ℕ → ℕ → Option ℕ
unknown_below line n = find (λ i. is_none (digit_at line i)) (beginnings_below line n)

unfoldable pub number_below : List ℕ → ℕ → ℕ
number_below line n = number_from_digits 10 (map (λ i. unwrap_or (digit_at line i) 0) (beginnings_below line n))

range-more : (a n j : ℕ) → a + n ≡ j → range_with_len a (n + 1) ≡ range_with_len a n ++ j ∷ []
range-more a zero j e = let h : a ≡ j = omega arith in rw h refl
range-more a (suc n) j e = let h = range-more (a + 1) n j (omega arith) in
    let k : suc n + 1 ≡ suc (n + 1) = omega arith in rw k (ap (λ xs. a ∷ xs) h)

-- up to the first white byte, by position
at-most : (p : ℕ → Bool) (xs : List ℕ) → position_or_len p xs ≤ length xs
at-most p [] = omega arith
at-most p (x ∷ xs) = let ih = at-most p xs in
    elim (p x) as (λ b. cond (not b) (1 + position_or_len p xs) 0 ≤ suc (length xs)) [
      | true ↦
          omega arith
      | false ↦ omega arith
    ]

pub ink_le : (xs : List ℕ) → position_or_len is_white_byte xs ≤ length xs
ink_le xs = at-most is_white_byte xs

pub begins-yes : (line : List ℕ) (n : ℕ) → begins_word line n ≡ true →
    beginnings_below line (n + 1) ≡ beginnings_below line n ++ n ∷ []
unfolding beginnings_below
begins-yes line n b =
    rw (range-more 0 n n (omega arith), filter-append (begins_word line) (range_with_len 0 n) (n ∷ []), b) refl

pub begins-no : (line : List ℕ) (n : ℕ) → begins_word line n ≡ false →
    beginnings_below line (n + 1) ≡ beginnings_below line n
unfolding beginnings_below
begins-no line n b =
    rw (range-more 0 n n (omega arith), filter-append (begins_word line) (range_with_len 0 n) (n ∷ []), b)
    (append-nil (filter (begins_word line) (range_with_len 0 n)))

-- the end of the word that begins at i
abbrev pub end_of : List ℕ → ℕ → ℕ
end_of line i = i + position_or_len is_white_byte (drop i line)

inked : (line : List ℕ) (i k : ℕ) → k < position_or_len is_white_byte (drop i line) →
    is_white_byte (get_or line (i + k) 0) ≡ false
inked line i k l = rw (← get_or-drop i line k 0) (fails_before_first is_white_byte (drop i line) k 0 l)

-- one word begins from there up to its end
within-word : (line : List ℕ) (i k : ℕ) → begins_word line i ≡ true →
    k < position_or_len is_white_byte (drop i line) →
    beginnings_below line (i + k + 1) ≡ beginnings_below line i ++ i ∷ []
within-word line i zero b l = let same : i + 0 ≡ i = omega arith in rw same (begins-yes line i b)
within-word line i (suc k) b l =
    let more : i + suc k ≡ i + k + 1 = omega arith in
    let none = ink-before line (i + k) (inked line i k (omega arith)) in
    rw more (begins-no line (i + k + 1) none ∙ within-word line i k b (omega arith))

pub word-begins : (line : List ℕ) (i : ℕ) → i < length line → begins_word line i ≡ true →
    beginnings_below line (end_of line i) ≡ beginnings_below line i ++ i ∷ []
word-begins line i l b =
    let n = position_or_len is_white_byte (drop i line) in
    let some : 0 < n = ink_first line i l b in
    let last : i + n ≡ i + (n - 1) + 1 = omega arith in
    rw last (within-word line i (n - 1) b (omega arith))

-- a word ends at the end of the line or at a white byte
pub white-end : (line : List ℕ) (i : ℕ) → end_of line i < length line →
    is_white_byte (get_or line (end_of line i) 0) ≡ true
white-end line i l =
    rw (← get_or-drop i line (position_or_len is_white_byte (drop i line)) 0)
    (passes_at_first is_white_byte (drop i line) 0 (omega (arith, length-drop i line)))

find-none : (p : ℕ → Bool) (xs : List ℕ) (x : ℕ) → find p xs ≡ None →
    find p (xs ++ x ∷ []) ≡ cond (p x) (Some x) None
find-none p xs x h = find-append p xs (x ∷ []) ∙ rw h refl

find-some : (p : ℕ → Bool) (xs ys : List ℕ) (x : ℕ) → find p xs ≡ Some x → find p (xs ++ ys) ≡ Some x
find-some p xs ys x h = find-append p xs ys ∙ rw h refl

-- no word begins at n
pub known-no : (line : List ℕ) (n : ℕ) → begins_word line n ≡ false → unknown_below line n ≡ None →
    unknown_below line (n + 1) ≡ None
unfolding unknown_below
known-no line n b k = rw (begins-no line n b) k

pub number-no : (line : List ℕ) (n : ℕ) → begins_word line n ≡ false →
    number_below line (n + 1) ≡ number_below line n
unfolding number_below
number-no line n b = rw (begins-no line n b) refl

-- a digit's name begins at n, and goes on up to m
pub known-yes : (line : List ℕ) (n m d : ℕ) → beginnings_below line m ≡ beginnings_below line n ++ n ∷ [] →
    digit_at line n ≡ Some d → unknown_below line n ≡ None → unknown_below line m ≡ None
unfolding unknown_below
known-yes line n m d b e k =
    rw b (find-none (λ i. is_none (digit_at line i)) (beginnings_below line n) n k ∙ rw e refl)

pub number-yes : (line : List ℕ) (n m d : ℕ) → beginnings_below line m ≡ beginnings_below line n ++ n ∷ [] →
    digit_at line n ≡ Some d → number_below line m ≡ number_below line n * 10 + d
unfolding number_below
number-yes line n m d b e =
    let f = λ (i : ℕ). unwrap_or (digit_at line i) 0 in
    rw (b, map-append f (beginnings_below line n) (n ∷ []))
    (number_push 10 (map f (beginnings_below line n)) (f n) ∙ rw e refl)

-- an unknown word begins at n
unknown-here : (line : List ℕ) (n : ℕ) → begins_word line n ≡ true → digit_at line n ≡ None →
    unknown_below line n ≡ None → unknown_below line (n + 1) ≡ Some n
unfolding unknown_below
unknown-here line n b e k =
    rw (begins-yes line n b) (find-none (λ i. is_none (digit_at line i)) (beginnings_below line n) n k ∙ rw e refl)

unknown-more : (line : List ℕ) (n m : ℕ) → unknown_below line m ≡ Some n →
    unknown_below line (m + 1) ≡ Some n
unfolding unknown_below
unknown-more line n m h = elim (cases_Bool (begins_word line m)) [
  | inl b ↦
      rw (begins-yes line m b) (find-some (λ i. is_none (digit_at line i)) (beginnings_below line m) (m ∷ []) n h)
  | inr b ↦ rw (begins-no line m b) h
]

unknown-stays : (line : List ℕ) (n k m : ℕ) → unknown_below line k ≡ Some n →
    unknown_below line (k + m) ≡ Some n
unknown-stays line n k zero h = let e : k + 0 ≡ k = omega arith in rw e h
unknown-stays line n k (suc m) h = let e : k + suc m ≡ (k + m) + 1 = omega arith in
    rw e (unknown-more line n (k + m) (unknown-stays line n k m h))

pub unknown-all : (line : List ℕ) (n : ℕ) → n < length line → begins_word line n ≡ true →
    digit_at line n ≡ None → unknown_below line n ≡ None → unknown_below line (length line) ≡ Some n
unknown-all line n l b e k =
    let s : length line ≡ (n + 1) + (length line - (n + 1)) = omega arith in
    rw s (unknown-stays line n (n + 1) (length line - (n + 1)) (unknown-here line n b e k))

-- the answers
pub answer-unknown : (line : List ℕ) (i j : ℕ) → unknown_below line (length line) ≡ Some i → i < j →
    j ≤ length line → slice_range line i j ≡ word_at line i → Err (Word i j) ≡ line_answer line
unfolding line_answer first_unknown number_of_words beginnings unknown_below number_below beginnings_below
answer-unknown line i j h l m w =
    let n : j ≡ i + length (word_at line i) =
    rw (← w) (omega (arith, length-take (j - i) (drop i line), length-drop i line)) in
    rw (h, ← n) refl

pub answer-large : (line : List ℕ) (v : ℕ) → unknown_below line (length line) ≡ None →
    v ≡ min (number_below line (length line)) 4294967296 → v ≡ 4294967296 → Err TooLarge ≡ line_answer line
unfolding line_answer first_unknown number_of_words beginnings unknown_below number_below beginnings_below
answer-large line v h e l =
    let t : nat_lt (number_below line (length line)) 4294967296 ≡ false = grind (arith, nat_tests) in
    rw (h, t) refl

pub answer-number : (line : List ℕ) (v : ℕ) → unknown_below line (length line) ≡ None →
    v ≡ min (number_below line (length line)) 4294967296 → v < 4294967296 → Ok v ≡ line_answer line
unfolding line_answer first_unknown number_of_words beginnings unknown_below number_below beginnings_below
answer-number line v h e l =
    let t : nat_lt (number_below line (length line)) 4294967296 ≡ true = grind (arith, nat_tests) in
    let n : v ≡ number_below line (length line) = omega arith in
    rw (h, t, n) refl

-- one more digit, kept at most at the limit
pub kept : (v w d : ℕ) → v ≡ min w 4294967296 → min (v * 10 + d) 4294967296 ≡ min (w * 10 + d) 4294967296
kept v w d e = omega arith

pub nothing-first : (line : List ℕ) → unknown_below line 0 ≡ None
unfolding unknown_below beginnings_below
nothing-first line = refl

pub nothing-number : (line : List ℕ) → number_below line 0 ≡ 0
unfolding number_below beginnings_below
nothing-number line = refl
