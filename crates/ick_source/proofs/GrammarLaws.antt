-- What is found by reading a grammar is what the grammar says is there.
use Rattle.std.proofs.Common.{◌≡◌, ℕ, suc, zero, ◌<◌, Bool, true, false, nat_eq, nat_lt, List, [], ◌∷◌, ◌++◌, length}
use Rattle.std.proofs.Common.{Option, Some, None, refl, sym, ap, subst, ◌∙◌, arith}
use Rattle.std.specs.Prelude.{cond}
use Rattle.std.proofs.lemmas.Bool.Decides.{nat_tests}
use Rattle.ick_source.specs.Position.{past_white}
use Rattle.ick_source.specs.Token.{IsNumber, IsWord, begins_number}
use Rattle.ick_source.specs.Grammar.{Grammar, yields, nothing, sequence, word, number, sign, next, looks, repeated}
use Rattle.ick_source.specs.Grammar.{Further, Part, IsRepeated, only, and_more, IsAhead, ahead, elsewhere, stands}
use Rattle.ick_source.specs.Grammar.{past_word}
use Rattle.ick_source.specs.Reading.{Found, Finding, and_then, as_found, is_there, join}
use Rattle.ick_source.specs.Reading.{turns, turn_on, turn_further, read, digits_of, past_digits, value_after}
use Rattle.ick_source.proofs.NumberLemmas as numbers

past_word-spelled : (w l : List ℕ) → past_word w (w ++ l) ≡ Some l
unfolding past_word
past_word-spelled [] l = refl
past_word-spelled (c ∷ w) l = let same : nat_eq c c ≡ true = grind (arith, nat_tests) in rw same (past_word-spelled w l)

pub past_word-is : (w l to : List ℕ) → past_word w l ≡ Some to → l ≡ w ++ to
unfolding past_word
past_word-is [] l to e = cc
past_word-is (c ∷ w) [] to e = absurd (cc)
past_word-is (c ∷ w) (b ∷ l) to e = by_test (past_word-is w l to) (nat_eq c b) refl e
  where
    by_test : (past_word w l ≡ Some to → l ≡ w ++ to) → (t : Bool) → nat_eq c b ≡ t →
        cond t (past_word w l) None ≡ Some to → b ∷ l ≡ c ∷ (w ++ to)
    by_test again true t e = let same : c ≡ b = grind (arith, nat_tests) in let rest = again e in cc
    by_test again false t e = absurd (cc)

pub word-found : {w from to : List ℕ} → IsWord w from to → past_word w (past_white from) ≡ Some to
word-found {w} {to = to} p = ap (past_word w) p.spelled ∙ past_word-spelled w to

-- a derivation has as many turns as the number allows
fewer : (a b c n : ℕ) → a < b → b < suc n → a < n
fewer a b c n p q = omega arith

turns-found : {A : Type 0} (part : Part A) (finds : List ℕ → Finding A)
    (further : Further) →
    ((from to : List ℕ) (x : A) → part from to x → finds from ≡ Some (record { value = x; left = to })) →
    (n : ℕ) (from to : List ℕ) (xs : List A) → length from < n → IsRepeated A part further from to xs →
    turns n finds further from ≡ Some (record { value = xs; left = to })
unfolding turns
turns-found part finds further agrees zero from to xs low p = absurd (omega (arith, low))
turns-found part finds further agrees (suc n) from to xs low (only p e) = rw (agrees _ _ _ p, e) refl
turns-found part finds further agrees (suc n) from to xs low (and_more {later = later} p e less q) =
    let test : nat_lt (length later) (length from) ≡ true = grind (arith, nat_tests, less) in
    let small : length later < n = omega (arith, less, low) in
    rw (agrees _ _ _ p, e, test, turns-found part finds further agrees n later _ _ small q) refl

turns-stand : {A : Type 0} (part : Part A) (finds : List ℕ → Finding A)
    (further : Further) →
    ((from : List ℕ) (r : Found A) → finds from ≡ Some r → part from r.left r.value) →
    (n : ℕ) (from : List ℕ) (r : Found (List A)) → turns n finds further from ≡ Some r →
    IsRepeated A part further from r.left r.value
unfolding turns
turns-stand part finds further agrees zero from r e = absurd (cc)
turns-stand {A} part finds further agrees (suc n) from r e =
    by_part (λ later s q. turns-stand part finds further agrees n later s q) (finds from) refl e
  where
    by_turns : (x : Found A) (later : List ℕ) →
        finds from ≡ Some x → further from x.left ≡ Some later → length later < length from →
        ((later : List ℕ) (s : Found (List A)) → turns n finds further later ≡ Some s →
        IsRepeated A part further later s.left s.value) →
        (o : Finding (List A)) → turns n finds further later ≡ o → join x.value o ≡ Some r →
        IsRepeated A part further from r.left r.value
    by_turns x later p q less again None t e = absurd (cc)
    by_turns x later p q less again (Some s) t e =
        subst (λ (z : Found (List A)). IsRepeated A part further from z.left z.value) (cc)
        (and_more (agrees from x p) q less (again later s t))

    by_test : (x : Found A) (later : List ℕ) →
        finds from ≡ Some x → further from x.left ≡ Some later →
        ((later : List ℕ) (s : Found (List A)) → turns n finds further later ≡ Some s →
        IsRepeated A part further later s.left s.value) →
        (t : Bool) → nat_lt (length later) (length from) ≡ t →
        cond t (join x.value (turns n finds further later)) None ≡ Some r →
        IsRepeated A part further from r.left r.value
    by_test x later p q again true t e =
        by_turns x later p q (grind (arith, nat_tests)) again (turns n finds further later) refl e
    by_test x later p q again false t e = absurd (cc)

    by_further : (x : Found A) → finds from ≡ Some x →
        ((later : List ℕ) (s : Found (List A)) → turns n finds further later ≡ Some s →
        IsRepeated A part further later s.left s.value) →
        (o : Option (List ℕ)) → further from x.left ≡ o → turn_further (turns n finds further) from x o ≡ Some r →
        IsRepeated A part further from r.left r.value
    by_further x p again None q e =
        subst (λ (z : Found (List A)). IsRepeated A part further from z.left z.value) (cc) (only (agrees from x p) q)
    by_further x p again (Some later) q e =
        by_test x later p q again (nat_lt (length later) (length from)) refl e

    by_part : ((later : List ℕ) (s : Found (List A)) → turns n finds further later ≡ Some s →
        IsRepeated A part further later s.left s.value) →
        (o : Finding A) → finds from ≡ o → turn_on (turns n finds further) further from o ≡ Some r →
        IsRepeated A part further from r.left r.value
    by_part again None p e = absurd (cc)
    by_part again (Some x) p e = by_further x p again (further from x.left) refl e

pub one_found : {A : Type 0} (r s : Found A) → Some r ≡ Some s → (s.left ≡ r.left) × (s.value ≡ r.value)
one_found {A} r s e =
    let same : s ≡ r = cc in (ap (λ (z : Found A). z.left) same, ap (λ (z : Found A). z.value) same)

ahead-is : (w from : List ℕ) (b : Bool) → IsAhead w from b → is_there (past_word w (past_white from)) ≡ b
ahead-is w from true (ahead p) = rw (word-found p) refl
ahead-is w from false (elsewhere p) = by_word (past_word w (past_white from)) refl
  where
    by_word : (o : Option (List ℕ)) → past_word w (past_white from) ≡ o → is_there o ≡ false
    by_word None e = refl
    by_word (Some l) e = absurd (p l (record { spelled = past_word-is w _ l e }))

is-ahead : (w from : List ℕ) (o : Option (List ℕ)) → past_word w (past_white from) ≡ o → IsAhead w from (is_there o)
is-ahead w from None e = elsewhere (λ after p. let f = word-found p in cc)
is-ahead w from (Some l) e = ahead (record { spelled = past_word-is w _ l e })

pub found : {A : Type 0} (g : Grammar A) (from to : List ℕ) (x : A) → stands g from to x →
    read g from ≡ Some (record { value = x; left = to })
unfolding stands read
found (yields a) from to x p = let e = p.0 in let f = p.1 in cc
found (nothing w) from to x p = absurd p
found (sequence g f) from to x p = rw (found g from p.0 p.1 p.2) (found (f p.1) p.0 to x p.3)
found (word w) from to x p = rw (word-found p) refl
found number from to x p = rw (numbers.number-begins p, numbers.number-ends p, numbers.number-value p) refl
found sign from to x p = let e = p.0 in let f = p.1 in cc
found next from to x p = let e = p.0 in let f = p.1 in cc
found (looks w) from to x p = rw (ahead-is w from x p.0) (let e = p.1 in cc)
found (repeated g further) from to x p =
    turns-found (stands g) (read g) further (λ from to x p. found g from to x p) (suc (length from)) from to x (omega arith) p

pub there : {A : Type 0} (g : Grammar A) (from : List ℕ) (r : Found A) → read g from ≡ Some r →
    stands g from r.left r.value
unfolding stands read
there (yields a) from r e = (cc, cc)
there (nothing w) from r e = absurd (cc)
there (sequence {A = B} g f) from r e =
    by_first (read g from) (λ s p. there g from s p) (λ a mid p. there (f a) mid r p) e
  where
    by_first : (o : Finding B) → ((s : Found B) → o ≡ Some s → stands g from s.left s.value) →
        ((a : B) (mid : List ℕ) → read (f a) mid ≡ Some r → stands (f a) mid r.left r.value) →
        and_then o (λ a mid. read (f a) mid) ≡ Some r →
        (mid : List ℕ) × (a : B) × (stands g from mid a) × (stands (f a) mid r.left r.value)
    by_first None p q e = absurd (cc)
    by_first (Some s) p q e = (s.left, s.value, p s refl, q s.value s.left e)
there (word w) from r e = by_word (past_word w (past_white from)) refl e
  where
    by_word : (o : Option (List ℕ)) → past_word w (past_white from) ≡ o → as_found tt o ≡ Some r → IsWord w from r.left
    by_word None p e = absurd (cc)
    by_word (Some l) p e = record { spelled = past_word-is w _ r.left (cc) }
there number from r e = by_test (begins_number (past_white from)) refl e
  where
    by_test : (t : Bool) → begins_number (past_white from) ≡ t →
        cond t (Some (record { value = value_after 0 (digits_of (past_white from)); left = past_digits (past_white from) })) None
        ≡ Some r →
        IsNumber from r.left r.value
    by_test true t e = subst (λ (z : Found ℕ). IsNumber from z.left z.value) (cc) (numbers.number_there from t)
    by_test false t e = absurd (cc)
there sign from r e = (cc, cc)
there next from r e = (cc, cc)
there (looks w) from r e =
    let same = one_found r (record { value = is_there (past_word w (past_white from)); left = from }) (sym e) in
    (subst (λ b. IsAhead w from b) same.1 (is-ahead w from (past_word w (past_white from)) refl), same.0)
there (repeated g further) from r e =
    turns-stand (stands g) (read g) further (λ from r p. there g from r p) (suc (length from)) from r e

pub one_stands : {A : Type 0} (g : Grammar A) (from to to' : List ℕ) (x x' : A) →
    stands g from to x → stands g from to' x' → (to ≡ to') × (x ≡ x')
one_stands g from to to' x x' p q =
    one_found _ _ (sym (found g from to' x' q) ∙ found g from to x p)
