-- Defines what a list of choices keeps for its text.
use Rattle.std.specs.Prelude.{◌≡◌, ℕ, ◌≤◌, Bool, List, map, length, take}
use Rattle.ick_explorer.specs.declared.stretches.Stretch.{Stretch as KeptStretch}
use Rattle.ick_explorer.specs.ChoiceTexts.{digit_of, Stretch, stretches}

-- the stretches that are kept
abbrev pub seen_stretch : KeptStretch → Stretch
seen_stretch s = record { choice = s.choice; size = s.size }

abbrev pub seen_stretches : List KeptStretch → List Stretch
seen_stretches kept = map seen_stretch kept

-- the digits of the first 64 choices, and the stretches of the first `grouped` choices
pub record KeepsText (digits : List ℕ) (kept : List Stretch) (grouped : ℕ) (c : List Bool) : Type 0 where
  pub plain : take (length c) digits ≡ map digit_of (take 64 c)
  pub within : grouped ≤ length c
  pub stretched : kept ≡ stretches (take grouped c)
