-- Words, and the numbers and names that they write.
use Rattle.std.proofs.Common.{◌≡◌, ℕ, suc, ◌+◌, ◌-◌, ◌<◌, ◌≤◌, ◌^◌, ◌==◌, Bool, true, false, List, [], ◌∷◌}
use Rattle.std.proofs.Common.{length, get_or, drop, cond, Some, None, is_some, refl, ap, sym, ◌∙◌, arith}
use Rattle.std.proofs.Common.{add-one}
use Rattle.std.proofs.Math.Seq.{drop-cons}
use Rattle.std.proofs.lemmas.Bool.Decides.{nat_tests}
use Rattle.std.specs.Prelude.{find}
use Rattle.std.specs.Char.{is_ascii_digit}
use Rattle.std.specs.List.{list_all}
use Rattle.std.specs.Str.Parse.{digits_value}
use Rattle.ick_session.specs.Commands.{all_named, behind_word, first_word, name_in, number_in, words_from}

-- a search that has not found is as far as before
pub find_on : {X : Type 0} (p : X → Bool) (xs : List X) (i : ℕ) (d : X) → i < length xs → p (get_or xs i d) ≡ false →
    find p (drop (i + 1) xs) ≡ find p (drop i xs)
find_on p xs i d lt fails =
    rw add-one (sym (ap (find p) (drop-cons xs i d lt)
    ∙ ap (λ b. cond b (Some (get_or xs i d)) (find p (drop (suc i) xs))) fails))

pub too_large : (word : List ℕ) → 2 ^ 32 ≤ digits_value 10 word → None ≡ number_in word
too_large word large = grind (arith, nat_tests)

pub no_digit : (word : List ℕ) → list_all is_ascii_digit word ≡ false → None ≡ number_in word
no_digit word none = grind (arith, nat_tests)

pub is_number : (word : List ℕ) → 0 < length word → list_all is_ascii_digit word ≡ true →
    digits_value 10 word < 2 ^ 32 →
    Some (digits_value 10 word) ≡ number_in word
is_number word some digits fits = grind (arith, nat_tests)

-- the words from a word on
pub words_step : (n at : ℕ) (rest : List ℕ) → at < n → words_from (n - at) rest
    ≡ cond (length (first_word rest) == 0) [] (first_word rest ∷ words_from (n - (at + 1)) (behind_word rest))
words_step n at rest lt = let e : n - at ≡ suc (n - (at + 1)) = omega arith in rw e refl

pub names_end : (n at : ℕ) (rest : List ℕ) → at < n → (length (first_word rest) == 0) ≡ true →
    all_named (words_from (n - at) rest) ≡ true
names_end n at rest lt none =
    ap all_named (words_step n at rest lt)
    ∙ ap (λ b. all_named (cond b [] (first_word rest ∷ words_from (n - (at + 1)) (behind_word rest)))) none

names_more : (n at : ℕ) (rest : List ℕ) → at < n → (length (first_word rest) == 0) ≡ false →
    all_named (words_from (n - at) rest)
    ≡ all_named (first_word rest ∷ words_from (n - (at + 1)) (behind_word rest))
names_more n at rest lt some =
    ap all_named (words_step n at rest lt)
    ∙ ap (λ b. all_named (cond b [] (first_word rest ∷ words_from (n - (at + 1)) (behind_word rest)))) some

pub names_on : (n at : ℕ) (rest : List ℕ) → at < n → (length (first_word rest) == 0) ≡ false →
    is_some (name_in (first_word rest)) ≡ true →
    all_named (words_from (n - at) rest) ≡ all_named (words_from (n - (at + 1)) (behind_word rest))
names_on n at rest lt some named = names_more n at rest lt some ∙ grind (arith, named)

pub names_off : (n at : ℕ) (rest : List ℕ) → at < n → (length (first_word rest) == 0) ≡ false →
    is_some (name_in (first_word rest)) ≡ false → all_named (words_from (n - at) rest) ≡ false
names_off n at rest lt some unnamed = names_more n at rest lt some ∙ grind (arith, unnamed)
