-- What is found by reading one part after another.
use Rattle.std.proofs.Common.{◌≡◌, ℕ, List, length, ◌≤◌, Option, Some, None, refl}
use Rattle.std.specs.Prelude.{is_some, MatchOption}
use Rattle.ick_source.specs.Position.{past_white}
use Rattle.ick_source.specs.Grammar.{Grammar, sequence, yields, past_word}
use Rattle.ick_source.specs.Reading.{Finding, read, is_there}
use Rattle.ick_source.specs.Token.{IsWord}
use Rattle.ick_source.proofs.TokenShorter.{word-shorter}
use Rattle.ick_source.proofs.GrammarLaws.{word-found, past_word-is}

abbrev pub at : {A : Type 0} → A → List ℕ → Finding A
at x l = Some (record { value = x; left = l })

pub after : {A B : Type 0} (g : Grammar A) (f : A → Grammar B) (from mid : List ℕ) (a : A) →
    read g from ≡ at a mid → read (sequence g f) from ≡ read (f a) mid
unfolding read
after g f from mid a p = rw p refl

pub done : {A : Type 0} (x : A) (from : List ℕ) → read (yields x) from ≡ at x from
unfolding read
done x from = refl

pub word_is : (w from to : List ℕ) → IsWord w from to → past_word w (past_white from) ≡ Some to
word_is w from to p = word-found p

pub word_is_not : (w from : List ℕ) → ((to : List ℕ) → IsWord w from to → ⊥) → past_word w (past_white from) ≡ None
word_is_not w from none_there = by_word (past_word w (past_white from)) refl
  where
    by_word : (o : Option (List ℕ)) → past_word w (past_white from) ≡ o → o ≡ None
    by_word None e = refl
    by_word (Some l) e = absurd (none_there l (record { spelled = past_word-is w _ l e }))

pub word-within : (w from to : List ℕ) → past_word w (past_white from) ≡ Some to → length to ≤ length from
word-within w from to e = word-shorter (record { spelled = past_word-is w _ to e })

pub word_sees : {T : Type 0} (w from : List ℕ) (r : Option T) (seen : T → List ℕ) →
    MatchOption r ((to : List ℕ) → IsWord w from to → ⊥) (λ to. IsWord w from (seen to)) →
    is_some r ≡ is_there (past_word w (past_white from))
word_sees w from None seen p = rw (word_is_not w from p) refl
word_sees w from (Some to) seen p = rw (word_is w from (seen to) p) refl
