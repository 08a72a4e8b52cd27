-- The line of bars of symbols that are put together; both lines, one digit longer; and what is printed of them.
use Rattle.std.proofs.Common.{◌≡◌, ℕ, zero, suc, ◌+◌, ◌-◌, ◌<◌, ◌≤◌, get_or, List, [], ◌∷◌, ◌++◌, length, map, refl, ap, sym}
use Rattle.std.proofs.Common.{true, false, Bool, ◌∙◌, ◌||◌, take, arith, append_assoc, append-nil}
use Rattle.std.proofs.Common.{if◌then◌else◌, length-take-le, take-take, take-add, take_at, drop_at, inl, inr, set}
use Rattle.std.specs.Prelude.{◌==◌}
use Rattle.std.specs.Fmt.{digits}
use Rattle.std.specs.Str.Parse.{AllDigits}
use Rattle.std.specs.List.{list_any}
use Rattle.std.proofs.lemmas.List.{map-append, take_more_set}
use Rattle.std.proofs.lemmas.List.Folds.{list_any-append}
use Rattle.std.proofs.lemmas.Bool.{or_right, cases_eq}
use mathlib.Core.Bool.{true≢false}
use Rattle.std.proofs.lemmas.Bool.Decides.{nat_tests}
use Rattle.ick_bits.specs.declared.numerals.Symbol.{Symbol}
use Rattle.ick_bits.specs.Numeral.{bar_line, bar_byte, letter_byte, printed, numeral_of, symbols_of, digit_symbols}
use Rattle.ick_bits.specs.Numeral.{place_symbols}
use Rattle.ick_bits.proofs.NumeralSteps.{digit-below, symbols_from, symbols-end, symbols-next}
use Rattle.ick_bits.proofs.RowLemmas.{none-inked}

-- how many symbols there are up to the last that has a bar
abbrev pub inked : List Symbol → ℕ
inked ss = length (bar_line ss)

-- the same of symbols behind others, of which there are `end`, up to the last bar `before`
abbrev pub inked_behind : ℕ → ℕ → List Symbol → ℕ
inked_behind before end ss = if inked ss == 0 then before else end + inked ss

abbrev any_bar : List Symbol → Bool
any_bar ss = list_any (λ s. s.barred) ss

-- the line of bars is the beginning of what stands over all symbols
bar_line-by : (s : Symbol) (ss : List Symbol) (b : Bool) → any_bar (s ∷ ss) ≡ b →
    bar_line ss ≡ take (inked ss) (map bar_byte ss) →
    bar_line (s ∷ ss) ≡ take (inked (s ∷ ss)) (map bar_byte (s ∷ ss))
unfolding bar_line
bar_line-by s ss true h rest = rw h (ap (λ l. bar_byte s ∷ l) rest)
bar_line-by s ss false h rest = rw h refl

pub bar_line-begins : (ss : List Symbol) → bar_line ss ≡ take (inked ss) (map bar_byte ss)
unfolding bar_line
bar_line-begins [] = refl
bar_line-begins (s ∷ ss) = bar_line-by s ss (any_bar (s ∷ ss)) refl (bar_line-begins ss)

few-by : (s : Symbol) (ss : List Symbol) (b : Bool) → any_bar (s ∷ ss) ≡ b → inked ss ≤ length ss →
    inked (s ∷ ss) ≤ length (s ∷ ss)
unfolding bar_line
few-by s ss true h rest = rw h (omega (arith, rest))
few-by s ss false h rest = rw h (omega arith)

pub inked-few : (ss : List Symbol) → inked ss ≤ length ss
unfolding bar_line
inked-few [] = omega arith
inked-few (s ∷ ss) = few-by s ss (any_bar (s ∷ ss)) refl (inked-few ss)

inked-some : (ss : List Symbol) → any_bar ss ≡ true → 0 < inked ss
unfolding bar_line
inked-some [] h = absurd (true≢false (sym h))
inked-some (s ∷ ss) h = rw h (omega arith)

inked-none : (ss : List Symbol) → any_bar ss ≡ false → inked ss ≡ 0
unfolding bar_line
inked-none [] h = refl
inked-none (s ∷ ss) h = rw h refl

or-false : (b : Bool) → (b || false) ≡ b
or-false true = refl
or-false false = refl

as-long : (b : Bool) (c : ℕ) (xs ys : List ℕ) → length xs ≡ length ys →
    length (if b then c ∷ xs else []) ≡ length (if b then c ∷ ys else [])
as-long true c xs ys e = ap suc e
as-long false c xs ys e = refl

behind-nothing : (n : ℕ) → n ≡ (if n == 0 then 0 else 0 + n)
behind-nothing zero = refl
behind-nothing (suc n) = let some : (suc n == 0) ≡ false = grind (arith, nat_tests) in rw some (omega arith)

inked-by : (x : Symbol) (xs ys : List Symbol) (b : Bool) → any_bar ys ≡ b →
    inked (xs ++ ys) ≡ inked_behind (inked xs) (length xs) ys →
    inked ((x ∷ xs) ++ ys) ≡ inked_behind (inked (x ∷ xs)) (length (x ∷ xs)) ys
unfolding bar_line
inked-by x xs ys true h rest =
    let some : (inked ys == 0) ≡ false = grind (arith, nat_tests, inked-some ys h) in
    let whole : any_bar ((x ∷ xs) ++ ys) ≡ true =
    list_any-append (λ t. t.barred) (x ∷ xs) ys ∙ or_right (any_bar (x ∷ xs)) (any_bar ys) h in
    let more : inked (xs ++ ys) ≡ length xs + inked ys = rw some at rest in
    rw (some, whole) (omega (arith, more))
inked-by x xs ys false h rest =
    let none : inked ys ≡ 0 = inked-none ys h in
    let whole : any_bar ((x ∷ xs) ++ ys) ≡ any_bar (x ∷ xs) =
    list_any-append (λ t. t.barred) (x ∷ xs) ys ∙ rw h (or-false (any_bar (x ∷ xs))) in
    let same : inked (xs ++ ys) ≡ inked xs = rw none at rest in
    rw (none, whole) (as-long (any_bar (x ∷ xs)) (bar_byte x) (bar_line (xs ++ ys)) (bar_line xs) same)

inked-append : (xs ys : List Symbol) → inked (xs ++ ys) ≡ inked_behind (inked xs) (length xs) ys
unfolding bar_line
inked-append [] ys = behind-nothing (inked ys)
inked-append (x ∷ xs) ys = inked-by x xs ys (any_bar ys) refl (inked-append xs ys)

behind-by : (m n k before end : ℕ) →
    (if (if m == 0 then n else k + m) == 0 then before else end + (if m == 0 then n else k + m))
    ≡ (if m == 0 then (if n == 0 then before else end + n) else end + k + m)
behind-by zero n k before end = refl
behind-by (suc m) n k before end =
    let one : (suc m == 0) ≡ false = grind (arith, nat_tests) in
    let some : (k + suc m == 0) ≡ false = grind (arith, nat_tests) in
    rw (one, some) (omega arith)

behind-append : (before end : ℕ) (xs ys : List Symbol) →
    inked_behind before end (xs ++ ys) ≡ inked_behind (inked_behind before end xs) (end + length xs) ys
behind-append before end xs ys =
    rw (inked-append xs ys) (behind-by (inked ys) (inked xs) (length xs) before end)

pub behind-start : (ss : List Symbol) → inked_behind 0 0 ss ≡ inked ss
behind-start ss = sym (behind-nothing (inked ss))

-- the symbols of one digit more, whether they have a bar or not
pub behind-more : (ss ds rest : List Symbol) → ss ≡ ds ++ rest → (before end next whole : ℕ) →
    next ≡ inked_behind before end ds → inked_behind before end ss ≡ whole →
    inked_behind next (end + length ds) rest ≡ whole
behind-more ss ds rest step before end next whole e inv =
    ap (λ n. inked_behind n (end + length ds) rest) e ∙ sym (behind-append before end ds rest)
    ∙ ap (inked_behind before end) (sym step) ∙ inv

few-unbarred : (t : List ℕ) → AllDigits 10 t → (k i : ℕ) → i + k ≡ length t → k ≤ 3 → inked (symbols_from t i) ≡ 0
unfolding bar_line
few-unbarred t a zero i e few = ap inked (symbols-end t i (omega (arith, e)))
few-unbarred t a (suc k) i e few =
    let place = length t - 1 - i in
    let digit = get_or t i 0 - 48 in
    let within : i < length t = omega (arith, e) in
    let rest = few-unbarred t a k (i + 1) (omega (arith, e)) (omega (arith, few)) in
    let one = none-inked place digit (omega (arith, e, few)) (digit-below t a i within) in
    ap inked (symbols-next t a i within digit refl) ∙ inked-append (place_symbols place digit) (symbols_from t (i + 1))
    ∙ rw rest one

-- the digits behind are the last three at most, which have no bar
pub behind-whole : (t : List ℕ) → AllDigits 10 t → (i : ℕ) → i ≤ length t → length t ≤ i + 3 →
    (before end whole : ℕ) → inked_behind before end (symbols_from t i) ≡ whole → before ≡ whole
behind-whole t a i within few before end whole inv =
    let none = few-unbarred t a (length t - i) i (omega (arith, within)) (omega (arith, few)) in
    rw none at inv

-- of a line of bars and spaces, what stands up to a byte among the first ones
pub line-begins : (end count : ℕ) (text rest whole : List ℕ) → count ≤ end → end ≤ length text →
    take end text ++ rest ≡ whole → take count text ≡ take count whole
line-begins end count text rest whole within room line =
    let front : length (take end text) ≡ end = length-take-le end text room in
    sym (take-take count end text within)
    ∙ ap (take count) (sym (take_at (take end text) rest end front))
    ∙ take-take count end (take end text ++ rest) within ∙ ap (take count) line

pub behind-some : (before end count : ℕ) (ss : List Symbol) → count ≡ inked ss → 0 < count →
    end + count ≡ inked_behind before end ss
behind-some before end count ss e some =
    let one : (inked ss == 0) ≡ false = grind (arith, nat_tests) in
    rw one (omega (arith, e))

pub behind-none : (before end count : ℕ) (ss : List Symbol) → count ≡ inked ss → count ≡ 0 →
    before ≡ inked_behind before end ss
behind-none before end count ss e none =
    let zero-inked : inked ss ≡ 0 = omega (arith, e, none) in
    rw zero-inked refl

pub behind-within : (before end : ℕ) (ss : List Symbol) → before ≤ end → inked_behind before end ss ≤ end + length ss
behind-within before end ss within =
    elim (cases_eq (inked ss) 0) [
      | inl none ↦ rw none (omega (arith, within))
      | inr one ↦
          let some : (inked ss == 0) ≡ false = grind (arith, nat_tests) in
          rw some (omega (arith, inked-few ss))
    ]

-- a row of four bytes, of which those of a digit's symbols count
pub line-row : (f : Symbol → ℕ) (before after row : List ℕ) (end count : ℕ) (ss : List Symbol) →
    count ≡ length ss → count ≤ 4 → take (end + 4) after ≡ take end before ++ row → end ≤ length before →
    take (length ss) row ≡ map f ss → take (end + count) after ≡ take end before ++ map f ss
line-row f before after row end count ss long few four room of_row =
    let front : length (take end before) ≡ end = length-take-le end before room in
    sym (take-take (end + count) (end + 4) after (omega arith))
    ∙ ap (take (end + count)) four
    ∙ take-add end count (take end before ++ row)
    ∙ (λ k. take_at (take end before) row end front k ++ take count (drop_at (take end before) row end front k))
    ∙ ap (λ l. take end before ++ l) (ap (λ n. take n row) long ∙ of_row)

-- the symbols of one digit more in a line that has f of each
pub line-more : (f : Symbol → ℕ) (ss ds rest : List Symbol) → ss ≡ ds ++ rest → (done whole : List ℕ) →
    done ++ map f ss ≡ whole → (done ++ map f ds) ++ map f rest ≡ whole
line-more f ss ds rest step done whole inv =
    append_assoc done (map f ds) (map f rest)
    ∙ ap (λ l. done ++ l) (sym (map-append f ds rest) ∙ ap (map f) (sym step))
    ∙ inv

-- and after all of them
pub line-whole : (f : Symbol → ℕ) (t : List ℕ) (i : ℕ) → i ≡ length t → (done whole : List ℕ) →
    done ++ map f (symbols_from t i) ≡ whole → done ≡ whole
line-whole f t i e done whole inv =
    sym (append-nil done) ∙ ap (λ ys. done ++ map f ys) (sym (symbols-end t i e)) ∙ inv

-- zero is a lone bar
pub printed-zero : printed (numeral_of 0) ≡ 95 ∷ 10 ∷ 10 ∷ []
unfolding printed numeral_of symbols_of digit_symbols digits
printed-zero = refl

-- a line of bars and one of letters behind it, each ended by byte 10
pub printed-lines : (ss : List Symbol) (bars letters : List ℕ) (k n : ℕ) → 0 < length ss → k < length bars →
    take k bars ≡ bar_line ss → n < length letters →
    take n letters ≡ take (k + 1) (set bars k 10) ++ map letter_byte ss →
    take (n + 1) (set letters n 10) ≡ printed ss
unfolding printed
printed-lines ss bars letters k n some room of_bars within of_letters =
    let one : (length ss == 0) ≡ false = grind (arith, nat_tests) in
    rw one (
    take_more_set letters n 10 within
    ∙ ap (λ l. l ++ (10 ∷ [])) of_letters
    ∙ ap (λ l. (l ++ map letter_byte ss) ++ (10 ∷ [])) (take_more_set bars k 10 room)
    ∙ ap (λ l. ((l ++ (10 ∷ [])) ++ map letter_byte ss) ++ (10 ∷ [])) of_bars
    )
