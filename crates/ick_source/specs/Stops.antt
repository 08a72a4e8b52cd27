-- Where the reading of a grammar stops if nothing stands there, and what is wanted at that place. `stops` is defined by
-- the cases of a grammar, as `stands` is. Reading goes as far as the text has what the grammar says. A character that
-- doesn't fit is not passed.
use Rattle.std.specs.Prelude.{ℕ, if◌then◌else◌, ◌≡◌, ◌<◌, ◌⊎◌, List, Some, length}
use Rattle.ick_source.specs.declared.wanted.Wanted.{Wanted}
use Rattle.ick_source.specs.declared.wanted.Wanted.TheVariants.{Body, Number}
use Rattle.ick_source.specs.Grammar.{Grammar, Further, Part, yields, nothing, sequence, word, number, sign, next, looks}
use Rattle.ick_source.specs.Grammar.{repeated, stands}
use Rattle.ick_source.specs.Token.{IsNumber, IsWord}
use Rattle.ick_source.specs.Wanted.{wanted_word, is_told_by_character}

abbrev pub Stopping : Type 1
Stopping = List ℕ → List ℕ → Wanted → Type 0

-- a part of a repeated grammar is not there: the first one, or a later one
pub data IsStopped (A : Type 0) (part : Part A) (stop : Stopping) (further : Further)
    : List ℕ → List ℕ → Wanted → Type 0 where
  in_part : {from at : List ℕ} {w : Wanted} → stop from at w → IsStopped A part stop further from at w
  later_on : {from mid later at : List ℕ} {x : A} {w : Wanted} →
      part from mid x →
      further from mid ≡ Some later →
      length later < length from →
      IsStopped A part stop further later at w →
      IsStopped A part stop further from at w
  -- no part of the language is empty, so this is no part's case
  stuck : {from mid later : List ℕ} {x : A} →
      part from mid x →
      further from mid ≡ Some later →
      (length later < length from → ⊥) →
      IsStopped A part stop further from later Body

-- where nothing may follow: before the character that told so, which was read from `told` on
abbrev pub stop_place : Wanted → (told from : List ℕ) → List ℕ
stop_place w told from = if is_told_by_character w then told else from

-- what was left before the character that was read last
abbrev pub told_by : {A : Type 0} → Grammar A → (from mid : List ℕ) → List ℕ
told_by sign from mid = from
told_by _ from mid = mid

-- reading from `from` on stops at `at`, where `w` is wanted; a character that was read from `told` on told what follows
unfoldable pub stops : {A : Type 0} → Grammar A → (told from at : List ℕ) → Wanted → Type 0
stops (yields a) told from at w = ⊥
stops (nothing v) told from at w = (stop_place v told from ≡ at) × (v ≡ w)
stops (sequence {A} g f) told from at w =
    (stops g told from at w)
    ⊎ ((mid : List ℕ) × (a : A) × (stands g from mid a) × (stops (f a) (told_by g from mid) mid at w))
stops (word v) told from at w = ((after : List ℕ) → IsWord v from after → ⊥) × (from ≡ at) × (wanted_word v ≡ w)
stops number told from at w = ((to : List ℕ) (n : ℕ) → IsNumber from to n → ⊥) × (from ≡ at) × (Number ≡ w)
stops sign told from at w = ⊥
stops next told from at w = ⊥
stops (looks v) told from at w = ⊥
stops (repeated {A} g further) told from at w =
    IsStopped A (stands g) (λ from at w. stops g from from at w) further from at w
