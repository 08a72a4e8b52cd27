-- How many characters a token takes.
use Rattle.std.proofs.Common.{ℕ, ◌<◌, ◌≤◌, true, false, List, [], ◌∷◌, length, length-append, ap, arith}
use Rattle.std.specs.Prelude.{cond}
use Rattle.ick_source.proofs.NumberLemmas.{number-shorter as digits-shorter}
use Rattle.ick_source.specs.Position.{past_lead, past_white, later_characters}
use Rattle.ick_bits.specs.White.{is_white_byte}
use Rattle.ick_source.specs.Token.{IsNumber, IsWord}

pub length-past_white : (l : List ℕ) → length (past_white l) ≤ length l
unfolding past_white
length-past_white [] = omega arith
length-past_white (b ∷ l) =
    elim (is_white_byte b) as (λ w. length (cond w (past_white l) (b ∷ l)) ≤ length (b ∷ l)) [
      | true ↦
          omega (arith, length-past_white l)
      | false ↦ omega arith
    ]

length-later_characters : (l : List ℕ) → length (later_characters l) ≤ length l
length-later_characters [] = omega arith
length-later_characters (b ∷ l) = omega arith

pub length-past_lead : (l : List ℕ) → length (past_lead l) ≤ length l
length-past_lead l = omega (arith, length-past_white l, length-later_characters (past_white l))

pub number-shorter : {from to : List ℕ} {n : ℕ} → IsNumber from to n → length to < length from
number-shorter {from} p = omega (arith, length-past_white from, digits-shorter p)

pub word-shorter : {word from to : List ℕ} → IsWord word from to → length to ≤ length from
word-shorter {word} {from} {to} p = omega (arith, length-past_white from, ap length p.spelled, length-append word to)

-- a word that has a letter takes characters
pub word-takes : {word from to : List ℕ} → 0 < length word → IsWord word from to → length to < length from
word-takes {word} {from} {to} some p =
    omega (arith, some, length-past_white from, ap length p.spelled, length-append word to)
