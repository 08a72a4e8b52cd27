-- What is found by reading repeated parts, turn by turn.
use Rattle.std.proofs.Common.{◌≡◌, ℕ, suc, zero, ◌<◌, Bool, true, false, nat_lt, List, [], ◌∷◌, ◌++◌, length, Option, Some, None, refl, ap, arith}
use Rattle.std.specs.Prelude.{cond}
use Rattle.std.proofs.lemmas.Bool.Decides.{nat_tests}
use Rattle.ick_source.specs.Grammar.{Grammar, Further, repeated}
use Rattle.ick_source.specs.Reading.{Found, Finding, join, turn_further, turn_on, turns, read}
use Rattle.ick_source.proofs.SequenceFound.{at}

abbrev pub prepend : {A : Type 0} → List A → Finding (List A) → Finding (List A)
prepend [] r = r
prepend (x ∷ xs) r = join x (prepend xs r)

pub prepend-none : {A : Type 0} (xs : List A) → prepend xs None ≡ None
prepend-none [] = refl
prepend-none (x ∷ xs) = rw (prepend-none xs) refl

pub prepend-end : {A : Type 0} (xs : List A) (x : A) (r : Finding (List A)) →
    prepend (xs ++ x ∷ []) r ≡ prepend xs (join x r)
prepend-end [] x r = refl
prepend-end (y ∷ xs) x r = ap (join y) (prepend-end xs x r)

pub prepend-last : {A : Type 0} (xs : List A) (x : A) (to : List ℕ) →
    prepend xs (at (x ∷ []) to) ≡ at (xs ++ x ∷ []) to
prepend-last [] x to = refl
prepend-last (y ∷ xs) x to = rw (prepend-last xs x to) refl

-- the number of turns does not matter if it is great enough
turns-enough : {A : Type 0} (part : List ℕ → Finding A) (further : Further) (n k : ℕ)
    (from : List ℕ) → length from < n → length from < k → turns n part further from ≡ turns k part further from
unfolding turns
turns-enough part further zero k from p q = absurd (omega (arith, p))
turns-enough part further (suc n) zero from p q = absurd (omega (arith, q))
turns-enough {A} part further (suc n) (suc k) from p q =
    by_part (λ later less. turns-enough part further n k later (omega (arith, less, p)) (omega (arith, less, q))) (part from)
  where
    by_test : (x : A) (later : List ℕ) →
        ((later : List ℕ) → length later < length from → turns n part further later ≡ turns k part further later) →
        (t : Bool) → nat_lt (length later) (length from) ≡ t →
        cond t (join x (turns n part further later)) None ≡ cond t (join x (turns k part further later)) None
    by_test x later same true t = ap (join x) (same later (grind (arith, nat_tests)))
    by_test x later same false t = refl

    by_further : (x : Found A) →
        ((later : List ℕ) → length later < length from → turns n part further later ≡ turns k part further later) →
        (o : Option (List ℕ)) →
        turn_further (turns n part further) from x o ≡ turn_further (turns k part further) from x o
    by_further x same None = refl
    by_further x same (Some later) = by_test x.value later same (nat_lt (length later) (length from)) refl

    by_part : ((later : List ℕ) → length later < length from → turns n part further later ≡ turns k part further later) →
        (o : Finding A) → turn_on (turns n part further) further from o ≡ turn_on (turns k part further) further from o
    by_part same None = refl
    by_part same (Some x) = by_further x same (further from x.left)

pub repeated-none : {A : Type 0} (g : Grammar A) (further : Further) (from : List ℕ) →
    read g from ≡ None → read (repeated g further) from ≡ None
unfolding read turns
repeated-none g further from p = rw p refl

pub repeated-last : {A : Type 0} (g : Grammar A) (further : Further) (from mid : List ℕ)
    (x : A) → read g from ≡ at x mid → further from mid ≡ None → read (repeated g further) from ≡ at (x ∷ []) mid
unfolding read turns
repeated-last g further from mid x p e = rw (p, e) refl

pub repeated-more : {A : Type 0} (g : Grammar A) (further : Further) (from mid later : List ℕ)
    (x : A) → read g from ≡ at x mid → further from mid ≡ Some later → length later < length from →
    read (repeated g further) from ≡ join x (read (repeated g further) later)
unfolding read turns
repeated-more g further from mid later x p e less =
    let t : nat_lt (length later) (length from) ≡ true = grind (arith, nat_tests, less) in
    rw (p, e, t)
    (ap (join x) (turns-enough (read g) further (length from) (suc (length later)) later less (omega arith)))
