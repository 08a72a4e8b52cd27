-- The lines of a listing, and their first words.
use Rattle.std.specs.Prelude.{◌≡◌, ◌++◌, ◌⊎◌, ◌∷◌, ℕ, Bool, List, codes}
use Rattle.std.specs.Str.Iter.{LacksByte}
use Rattle.ick_code.specs.meaning.State.{State}
use Rattle.ick_backtrack.specs.Machine.{Program}
use Rattle.ick_explorer.specs.ChoiceTexts.{IsTextOf}
use Rattle.ick_explorer.specs.Lines.{run_line}
use Rattle.ick_explorer.specs.Runs.{IsWhole}

-- the first word of a line, in front of its first blank
pub record IsFirstWord (line word : List ℕ) : Type 0 where
  pub rest : List ℕ
  pub whole : line ≡ word ++ 32 ∷ rest
  pub first : LacksByte 32 word

-- the line, without its line end, is that of the run with these choices
pub record IsLineOf (p : Program) (s : State) (limit : ℕ) (line : List ℕ) (c : List Bool) : Type 0 where
  pub whole : IsWhole p s limit c
  pub same : line ++ codes "\n" ≡ run_line p s limit c

-- the same, and its first word is a text of them
pub record IsRunLine (p : Program) (s : State) (limit : ℕ) (line : List ℕ) (c : List Bool) : Type 0 where
  pub line_of : IsLineOf p s limit line c
  pub word : List ℕ
  pub is_word : IsFirstWord line word
  pub reads : IsTextOf word c

-- the last line of a listing
abbrev pub IsLast : List ℕ → Type 0
IsLast line = (line ≡ codes "DONE") ⊎ (line ≡ codes "MORE")

-- a line that a listing of the program may have
abbrev pub IsListed : Program → State → ℕ → List ℕ → Type 0
IsListed p s limit line = IsLast line ⊎ ((c : List Bool) × IsRunLine p s limit line c)
