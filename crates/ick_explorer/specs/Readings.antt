-- Defines predicates for the contracts of reading texts of groups.
use Rattle.std.specs.Prelude.{◌≡◌, ◌⊎◌, ◌<◌, ◌≤◌, ◌^◌, ℕ, ◌+◌, Bool, List, []}
use Rattle.std.specs.Prelude.{◌∷◌, ◌++◌, length, take, drop, Option, None}
use Rattle.std.specs.Char.{digit_value}
use Rattle.std.specs.Str.Parse.{digits_value}
use Rattle.ick_explorer.specs.ChoiceTexts.{Group, IsLength, Differs, IsGrouped, group_text}
use Rattle.ick_explorer.specs.declared.groups.Front.{Front}

-- the text has no digit at its front
abbrev pub HasNoDigit : List ℕ → Type 0
HasNoDigit [] = Unit {0}
HasNoDigit (b ∷ bs) = digit_value b < 10 → ⊥

-- a number, or 2 ^ 32 if the number is greater
abbrev pub IsCapped : ℕ → ℕ → Type 0
IsCapped value number = ((number < 2 ^ 32) × (value ≡ number)) ⊎ ((2 ^ 32 ≤ number) × (value ≡ 2 ^ 32))

abbrev pub front_group : Front → List ℕ → Group
front_group f text = record { choice = f.choice; digits = take f.count (drop 2 text) }

-- the group at the front of a text, after a choice
pub record IsFront (last : Option Bool) (text : List ℕ) (f : Front) : Type 0 where
  pub differs : Differs last f.choice
  pub length_is : IsLength (front_group f text).digits
  pub size : IsCapped f.size (digits_value 10 (front_group f text).digits)
  pub within : f.count + 2 ≤ length text
  pub text_is : text ≡ group_text (front_group f text) ++ drop (f.count + 2) text
  pub stops : HasNoDigit (drop (f.count + 2) text)

-- the readings of the text are exactly front, each followed by a reading of the text from the index `at`
pub record IsRead (text : List ℕ) (last : Option Bool) (at : ℕ) (front : List Bool) : Type 0 where
  pub on : (rest : List Bool) → IsGrouped last (drop at text) rest → IsGrouped None text (front ++ rest)
  pub back : (c : List Bool) → IsGrouped None text c →
      (rest : List Bool) × IsGrouped last (drop at text) rest × (c ≡ front ++ rest)
