-- Defines the texts of lists of choices.
use Rattle.std.specs.Prelude.{◌≡◌, ◌⊎◌, ◌==◌, ◌||◌, ◌<◌, ℕ, ◌+◌, nat_lt}
use Rattle.std.specs.Prelude.{if◌then◌else◌, not, Bool, true, false, List, [], ◌∷◌, ◌++◌, map, length}
use Rattle.std.specs.Prelude.{get_or, decimal, codes, Option, Some, None, replicate}
use Rattle.std.specs.Str.Parse.{IsNumeral, digits_value}

-- the digit of a choice
abbrev pub digit_of : Bool → ℕ
digit_of false = 48
digit_of true = 49

-- one digit a choice, or `-` for none
abbrev pub plain_text : List Bool → List ℕ
plain_text [] = codes "-"
plain_text (b ∷ c) = map digit_of (b ∷ c)

-- a digit of a plain text
abbrev pub is_digit : ℕ → Bool
is_digit b = b == 48 || b == 49

-- a group of a text: a choice, and the digits of the length of its stretch
pub record Group : Type 0 where
  pub choice : Bool
  pub digits : List ℕ

-- digits without a leading zero
abbrev pub IsLength : List ℕ → Type 0
IsLength ds = IsNumeral 10 ds × (48 < get_or ds 0 0)

abbrev pub group_text : Group → List ℕ
group_text g = digit_of g.choice ∷ 42 ∷ g.digits

-- groups, each with a comma before it
abbrev pub later_text : List Group → List ℕ
later_text [] = []
later_text (g ∷ gs) = 44 ∷ (group_text g ++ later_text gs)

-- groups with commas between them
abbrev pub groups_text : List Group → List ℕ
groups_text [] = []
groups_text (g ∷ gs) = group_text g ++ later_text gs

-- differs from the choice before, if there is a choice before
abbrev pub Differs : Option Bool → Bool → Type 0
Differs None b = Unit {0}
Differs (Some a) b = a ≡ b → ⊥

-- groups after a choice: lengths have no leading zeros, and neighbours have different choices
abbrev pub AreGroups : Option Bool → List Group → Type 0
AreGroups last [] = Unit {0}
AreGroups last (g ∷ gs) = Differs last g.choice × IsLength g.digits × AreGroups (Some g.choice) gs

abbrev pub stretch_of : Group → List Bool
stretch_of g = replicate (digits_value 10 g.digits) g.choice

-- the choices of a list of groups
abbrev pub spread : List Group → List Bool
spread [] = []
spread (g ∷ gs) = stretch_of g ++ spread gs

-- a text of one or more groups after a choice, and the choices of these groups
pub record IsGrouped (last : Option Bool) (text : List ℕ) (c : List Bool) : Type 0 where
  pub groups : List Group
  pub some : 0 < length groups
  pub groups_are : AreGroups last groups
  pub text_is : text ≡ groups_text groups
  pub choices_are : c ≡ spread groups

-- the plain text of a list of choices
abbrev pub IsPlain : List ℕ → List Bool → Type 0
IsPlain text c = text ≡ plain_text c

-- a text of a list of choices, as it is read
abbrev pub IsTextOf : List ℕ → List Bool → Type 0
IsTextOf text c = IsPlain text c ⊎ IsGrouped None text c

abbrev pub is_same : Bool → Bool → Bool
is_same true b = b
is_same false b = not b

-- equal choices one after another
pub record Stretch : Type 0 where
  pub choice : Bool
  pub size : ℕ

-- the stretches with one more choice before them
abbrev pub with_choice : Bool → List Stretch → List Stretch
with_choice b [] = record { choice = b; size = 1 } ∷ []
with_choice b (s ∷ ss) =
    if is_same b s.choice then record { choice = b; size = s.size + 1 } ∷ ss
    else record { choice = b; size = 1 } ∷ s ∷ ss

-- the longest stretches of equal choices
abbrev pub stretches : List Bool → List Stretch
stretches [] = []
stretches (b ∷ c) = with_choice b (stretches c)

abbrev pub group_of : Stretch → Group
group_of s = record { choice = s.choice; digits = decimal s.size }

abbrev pub grouped_text : List Bool → List ℕ
grouped_text c = groups_text (map group_of (stretches c))

-- the printed text of a list of choices: in groups if there are more than 64
unfoldable pub choices_text : List Bool → List ℕ
choices_text c = if nat_lt 64 (length c) then grouped_text c else plain_text c
