-- What a numeral is worth, and how long it is.
use Rattle.std.proofs.Common.{◌≡◌, ℕ, zero, suc, ◌+◌, ◌*◌, ◌^◌, ◌<◌, ◌≤◌, List, []}
use Rattle.std.proofs.Common.{◌∷◌, ◌++◌, length, refl, ap, arith, true, false, length-append, ◌∙◌}
use Rattle.std.proofs.Common.{inl, inr}
use Rattle.std.specs.Prelude.{pos, neg_ℤ, ◌+ℤ◌, nat_lt}
use Rattle.std.proofs.lemmas.Int.{ints}
use Rattle.std.proofs.lemmas.Bool.{cases_lt}
use Rattle.std.proofs.lemmas.Bool.Decides.{nat_tests}
use Rattle.ick_bits.specs.declared.numerals.Symbol.{Symbol}
use Rattle.ick_bits.specs.declared.numerals.Letters.{Letters}
use Rattle.ick_bits.specs.Numeral.{letters_of, digit_symbols, symbols_of, numeral_of, decimal_digits, symbol_value}
use Rattle.ick_bits.specs.Numeral.{first_value, worth}
use Rattle.std.proofs.lemmas.List.{length-map}
use Rattle.std.specs.Fmt.{decimal}
use Rattle.std.specs.Char.{digit_value}
use Rattle.std.specs.Int.Digits.{AllBelowBase, number_from_digits_after}
use Rattle.std.proofs.lemmas.Int.Digits.{digits_value_is, all_below_base_from_digits}
use Rattle.std.proofs.lemmas.Fmt.{decimal_is_IsNumeral, length-decimal-le}

-- a symbol with nothing greater right after it counts fully
pub worth-plus : (s : Symbol) (ss : List Symbol) → first_value ss ≤ symbol_value s →
    worth (s ∷ ss) ≡ pos (symbol_value s) +ℤ worth ss
unfolding worth
worth-plus s ss h = let e : nat_lt (symbol_value s) (first_value ss) ≡ false = grind (arith, nat_tests) in rw e refl

-- one with a greater right after it is taken away
pub worth-minus : (s : Symbol) (ss : List Symbol) → symbol_value s < first_value ss →
    worth (s ∷ ss) ≡ neg_ℤ (pos (symbol_value s)) +ℤ worth ss
unfolding worth
worth-minus s ss h = let e : nat_lt (symbol_value s) (first_value ss) ≡ true = grind (arith, nat_tests) in rw e refl

-- the letters of a place are worth one, five and ten times w
pub record IsWorth (p : Letters) (w : ℕ) : Type 0 where
  pub one : symbol_value p.one ≡ w
  pub five : symbol_value p.five ≡ 5 * w
  pub ten : symbol_value p.ten ≡ 10 * w

-- a digit at a place, before symbols that are worth no more than one of that place
pub worth-digit : (p : Letters) (w d : ℕ) (ss : List Symbol) → IsWorth p w → 0 < w → d < 10 →
    first_value ss ≤ w → worth (digit_symbols p d ++ ss) ≡ pos (d * w) +ℤ worth ss
unfolding digit_symbols
worth-digit p w zero ss i h l f = omega (arith, ints)
worth-digit p w (suc zero) ss i h l f = omega (arith, ints, worth-plus p.one ss (omega (arith, i.one)), i.one)
worth-digit p w (suc (suc zero)) ss i h l f =
    omega
    (arith, ints, worth-plus p.one (p.one ∷ ss) (omega arith), worth-plus p.one ss (omega (arith, i.one)), i.one)
worth-digit p w (suc (suc (suc zero))) ss i h l f =
    omega (
      arith,
      ints,
      worth-plus p.one (p.one ∷ p.one ∷ ss) (omega arith),
      worth-plus p.one (p.one ∷ ss) (omega arith),
      worth-plus p.one ss (omega (arith, i.one)),
      i.one,
    )
worth-digit p w (suc (suc (suc (suc zero)))) ss i h l f =
    omega (
      arith,
      ints,
      worth-minus p.one (p.five ∷ ss) (omega (arith, i.one, i.five)),
      worth-plus p.five ss (omega (arith, i.five)),
      i.one,
      i.five,
    )
worth-digit p w (suc (suc (suc (suc (suc zero))))) ss i h l f =
    omega (arith, ints, worth-plus p.five ss (omega (arith, i.five)), i.five)
worth-digit p w (suc (suc (suc (suc (suc (suc zero)))))) ss i h l f =
    omega (
      arith,
      ints,
      worth-plus p.five (p.one ∷ ss) (omega (arith, i.one, i.five)),
      worth-plus p.one ss (omega (arith, i.one)),
      i.one,
      i.five,
    )
worth-digit p w (suc (suc (suc (suc (suc (suc (suc zero))))))) ss i h l f =
    omega (
      arith,
      ints,
      worth-plus p.five (p.one ∷ p.one ∷ ss) (omega (arith, i.one, i.five)),
      worth-plus p.one (p.one ∷ ss) (omega arith),
      worth-plus p.one ss (omega (arith, i.one)),
      i.one,
      i.five,
    )
worth-digit p w (suc (suc (suc (suc (suc (suc (suc (suc zero)))))))) ss i h l f =
    omega (
      arith,
      ints,
      worth-plus p.five (p.one ∷ p.one ∷ p.one ∷ ss) (omega (arith, i.one, i.five)),
      worth-plus p.one (p.one ∷ p.one ∷ ss) (omega arith),
      worth-plus p.one (p.one ∷ ss) (omega arith),
      worth-plus p.one ss (omega (arith, i.one)),
      i.one,
      i.five,
    )
worth-digit p w (suc (suc (suc (suc (suc (suc (suc (suc (suc zero))))))))) ss i h l f =
    omega (
      arith,
      ints,
      worth-minus p.one (p.ten ∷ ss) (omega (arith, i.one, i.ten)),
      worth-plus p.ten ss (omega (arith, i.ten)),
      i.one,
      i.ten,
    )
worth-digit p w (suc (suc (suc (suc (suc (suc (suc (suc (suc (suc d)))))))))) ss i h l f = absurd (omega arith)

-- the table's letters
pub letters-worth : (k : ℕ) → k < 10 → IsWorth (letters_of k) (10 ^ k)
unfolding symbol_value
letters-worth zero h = record { one = refl; five = refl; ten = refl }
letters-worth (suc zero) h = record { one = refl; five = refl; ten = refl }
letters-worth (suc (suc zero)) h = record { one = refl; five = refl; ten = refl }
letters-worth (suc (suc (suc zero))) h = record { one = refl; five = refl; ten = refl }
letters-worth (suc (suc (suc (suc zero)))) h = record { one = refl; five = refl; ten = refl }
letters-worth (suc (suc (suc (suc (suc zero))))) h = record { one = refl; five = refl; ten = refl }
letters-worth (suc (suc (suc (suc (suc (suc zero)))))) h = record { one = refl; five = refl; ten = refl }
letters-worth (suc (suc (suc (suc (suc (suc (suc zero))))))) h = record { one = refl; five = refl; ten = refl }
letters-worth (suc (suc (suc (suc (suc (suc (suc (suc zero)))))))) h = record { one = refl; five = refl; ten = refl }
letters-worth (suc (suc (suc (suc (suc (suc (suc (suc (suc zero))))))))) h =
    record { one = refl; five = refl; ten = refl }
letters-worth (suc (suc (suc (suc (suc (suc (suc (suc (suc (suc k)))))))))) h = absurd (omega arith)

-- the first symbol from a digit on
first-digit : (p : Letters) (w d : ℕ) (ss : List Symbol) → IsWorth p w → d < 10 → first_value ss ≤ w →
    first_value (digit_symbols p d ++ ss) ≤ 10 * w
unfolding digit_symbols
first-digit p w zero ss i l f = omega arith
first-digit p w (suc zero) ss i l f = omega (arith, i.one)
first-digit p w (suc (suc zero)) ss i l f = omega (arith, i.one)
first-digit p w (suc (suc (suc zero))) ss i l f = omega (arith, i.one)
first-digit p w (suc (suc (suc (suc zero)))) ss i l f = omega (arith, i.one)
first-digit p w (suc (suc (suc (suc (suc zero))))) ss i l f = omega (arith, i.five)
first-digit p w (suc (suc (suc (suc (suc (suc zero)))))) ss i l f = omega (arith, i.five)
first-digit p w (suc (suc (suc (suc (suc (suc (suc zero))))))) ss i l f = omega (arith, i.five)
first-digit p w (suc (suc (suc (suc (suc (suc (suc (suc zero)))))))) ss i l f = omega (arith, i.five)
first-digit p w (suc (suc (suc (suc (suc (suc (suc (suc (suc zero))))))))) ss i l f = omega (arith, i.one)
first-digit p w (suc (suc (suc (suc (suc (suc (suc (suc (suc (suc d)))))))))) ss i l f = absurd (omega arith)

ten-pos : (k : ℕ) → 0 < 10 ^ k
ten-pos zero = omega arith
ten-pos (suc k) = omega (arith, ten-pos k)

ten-suc : (k : ℕ) → 10 ^ suc k ≡ 10 * 10 ^ k
ten-suc k = omega arith

ten-more : (d : ℕ) (ds : List ℕ) → 10 ^ length (d ∷ ds) ≡ 10 * 10 ^ length ds
ten-more d ds = ten-suc (length ds)

-- the number that digits write, by places
abbrev pub value_of : List ℕ → ℕ
value_of [] = 0
value_of (d ∷ ds) = d * 10 ^ length ds + value_of ds

pub first-symbols : (ds : List ℕ) → AllBelowBase 10 ds → length ds ≤ 10 →
    first_value (symbols_of ds) ≤ 10 ^ length ds
unfolding symbols_of
first-symbols [] a l = omega arith
first-symbols (d ∷ ds) a l =
    let k : length ds < 10 = omega arith in
    let f : first_value (symbols_of (d ∷ ds)) ≤ 10 * 10 ^ length ds =
    first-digit (letters_of (length ds)) (10 ^ length ds) d (symbols_of ds) (letters-worth (length ds) k) a.0
    (first-symbols ds a.1 (omega arith)) in
    omega (arith, ten-more d ds)

pub worth-symbols : (ds : List ℕ) → AllBelowBase 10 ds → length ds ≤ 10 →
    worth (symbols_of ds) ≡ pos (value_of ds)
unfolding symbols_of worth
worth-symbols [] a l = refl
worth-symbols (d ∷ ds) a l =
    let k : length ds < 10 = omega arith in
    let f =
    worth-digit (letters_of (length ds)) (10 ^ length ds) d (symbols_of ds) (letters-worth (length ds) k)
    (ten-pos (length ds)) a.0 (first-symbols ds a.1 (omega arith)) in
    let g = worth-symbols ds a.1 (omega arith) in
    omega (arith, ints, f, g)

-- how many symbols a digit has
length-digit : (p : Letters) (d : ℕ) → length (digit_symbols p d) ≤ 4
unfolding digit_symbols
length-digit p zero = omega arith
length-digit p (suc zero) = omega arith
length-digit p (suc (suc zero)) = omega arith
length-digit p (suc (suc (suc zero))) = omega arith
length-digit p (suc (suc (suc (suc zero)))) = omega arith
length-digit p (suc (suc (suc (suc (suc zero))))) = omega arith
length-digit p (suc (suc (suc (suc (suc (suc zero)))))) = omega arith
length-digit p (suc (suc (suc (suc (suc (suc (suc zero))))))) = omega arith
length-digit p (suc (suc (suc (suc (suc (suc (suc (suc zero)))))))) = omega arith
length-digit p (suc (suc (suc (suc (suc (suc (suc (suc (suc zero))))))))) = omega arith
length-digit p (suc (suc (suc (suc (suc (suc (suc (suc (suc (suc d)))))))))) = omega arith

length-low : (p : Letters) (d : ℕ) → d ≤ 4 → length (digit_symbols p d) ≤ 3
unfolding digit_symbols
length-low p zero h = omega arith
length-low p (suc zero) h = omega arith
length-low p (suc (suc zero)) h = omega arith
length-low p (suc (suc (suc zero))) h = omega arith
length-low p (suc (suc (suc (suc zero)))) h = omega arith
length-low p (suc (suc (suc (suc (suc d))))) h = absurd (omega arith)

length-symbols : (ds : List ℕ) → length (symbols_of ds) ≤ 4 * length ds
unfolding symbols_of
length-symbols [] = omega arith
length-symbols (d ∷ ds) =
    omega (
      arith,
      length-append (digit_symbols (letters_of (length ds)) d) (symbols_of ds),
      length-digit (letters_of (length ds)) d,
      length-symbols ds,
    )

-- at most 39 for digits that write a number below 2 ^ 32
pub length-symbols-le : (ds : List ℕ) → length ds ≤ 10 → value_of ds < 2 ^ 32 → length (symbols_of ds) ≤ 39
unfolding symbols_of
length-symbols-le [] l v = omega arith
length-symbols-le (d ∷ ds) l v =
    let lens = length-append (digit_symbols (letters_of (length ds)) d) (symbols_of ds) in
    elim (cases_lt (length ds) 9) [
      | inl short ↦ omega (arith, lens, length-digit (letters_of (length ds)) d, length-symbols ds)
      | inr long ↦
          let nine : length ds ≡ 9 = omega arith in
          let e : 10 ^ length ds ≡ 1000000000 = rw nine refl in
          let top : d * 10 ^ length ds + value_of ds < 2 ^ 32 = v in
          let low : d ≤ 4 = omega (arith, rw e at top) in
          omega (arith, lens, length-low (letters_of (length ds)) d low, length-symbols ds)
    ]

value-after : (n : ℕ) (ds : List ℕ) → number_from_digits_after 10 n ds ≡ n * 10 ^ length ds + value_of ds
value-after n [] = omega arith
value-after n (d ∷ ds) =
    let e : number_from_digits_after 10 n (d ∷ ds) ≡ (n * 10 + d) * 10 ^ length ds + value_of ds =
    value-after (n * 10 + d) ds in
    let dist : (n * 10 + d) * 10 ^ length ds ≡ n * (10 * 10 ^ length ds) + d * 10 ^ length ds = omega arith in
    let more : n * 10 ^ length (d ∷ ds) ≡ n * (10 * 10 ^ length ds) = ap (λ p. n * p) (ten-more d ds) in
    omega arith

pub value-decimal : (v : ℕ) → v < 2 ^ 64 → value_of (decimal_digits v) ≡ v
value-decimal v h =
    omega (arith, value-after 0 (decimal_digits v), digits_value_is 10 (decimal v), decimal_is_IsNumeral v h)

pub below-decimal : (v : ℕ) → v < 2 ^ 64 → AllBelowBase 10 (decimal_digits v)
below-decimal v h = all_below_base_from_digits 10 (decimal v) (decimal_is_IsNumeral v h).0.1

pub length-decimal_digits : (v : ℕ) → v < 2 ^ 32 → length (decimal_digits v) ≤ 10
length-decimal_digits v h =
    omega (arith, length-map (decimal v) digit_value, length-decimal-le 10 v (omega arith) (omega arith) (omega arith))

pub worth-numeral : (v : ℕ) → v < 2 ^ 32 → worth (numeral_of v) ≡ pos v
unfolding numeral_of
worth-numeral v h =
    worth-symbols (decimal_digits v) (below-decimal v (omega arith)) (length-decimal_digits v h)
    ∙ ap pos (value-decimal v (omega arith))

pub length-numeral : (v : ℕ) → v < 2 ^ 32 → length (numeral_of v) ≤ 39
unfolding numeral_of
length-numeral v h =
    length-symbols-le (decimal_digits v) (length-decimal_digits v h) (omega (arith, value-decimal v (omega arith)))

-- a number above zero has a symbol
some-worth : (v : ℕ) (ss : List Symbol) → worth ss ≡ pos v → 0 < v → 0 < length ss
unfolding worth
some-worth v [] h some = absurd (omega (arith, ints, h, some))
some-worth v (s ∷ ss) h some = omega arith

pub some-numeral : (v : ℕ) → v < 2 ^ 32 → 0 < v → 0 < length (numeral_of v)
some-numeral v h some = some-worth v (numeral_of v) (worth-numeral v h) some
