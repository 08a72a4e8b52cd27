-- What the choices of a listing were asked by, or its first line that is of no run.
use Prim.Native.Nat.{suc}
use Rattle.std.specs.Prelude.{◌≡◌, ◌++◌, ◌∷◌, ℕ, Bool, List, [], codes, decimal}
use Rattle.std.specs.Str.Iter.{LacksByte}
use Rattle.ick_code.specs.meaning.State.{State}
use Rattle.ick_backtrack.specs.Machine.{Program}
use Rattle.ick_outcomes.specs.Askers.{asked, asked_line}
use Rattle.ick_outcomes.specs.Programs.{spoken}
use Rattle.ick_outcomes_cli.specs.Lines.{IsLast, IsListed, IsRunLine}
use Rattle.ick_outcomes_cli.specs.declared.asked.Asked.{Asked}
use Rattle.ick_outcomes_cli.specs.declared.asked.Asked.TheVariants.{Text, Foreign}

-- a text has the line of each run of a listing, and nothing for the listing's last lines
pub data Explains (p : Program) (s : State) (limit : ℕ) : List ℕ → List ℕ → Type 0 where
  no_line : Explains p s limit [] []
  last_line : (line rest text : List ℕ) → LacksByte 10 line → IsLast line → Explains p s limit rest text
      → Explains p s limit (line ++ 10 ∷ rest) text
  run_line : (line rest text : List ℕ) (c : List Bool) → LacksByte 10 line → (IsLast line → ⊥)
      → IsRunLine p s limit line c → Explains p s limit rest text
      → Explains p s limit (line ++ 10 ∷ rest) (asked_line (asked (spoken p) s limit c) ++ text)

-- the first line of a listing that no listing of the program has, by its number
pub data ForeignAt (p : Program) (s : State) (limit : ℕ) : List ℕ → ℕ → Type 0 where
  foreign_here : (listing : List ℕ) → (listing ≡ [] → ⊥)
      → ((line rest : List ℕ) → LacksByte 10 line → listing ≡ line ++ 10 ∷ rest
      → IsListed p s limit line → ⊥)
      → ForeignAt p s limit listing 1
  foreign_later : (line rest : List ℕ) (n : ℕ) → LacksByte 10 line → IsListed p s limit line
      → ForeignAt p s limit rest n → ForeignAt p s limit (line ++ 10 ∷ rest) (suc n)

-- the text of a listing, or its foreign line
abbrev pub IsAskedBy : Program → State → ℕ → List ℕ → Asked → Type 0
IsAskedBy p s limit listing (Text text) = Explains p s limit listing text.items
IsAskedBy p s limit listing (Foreign number) = ForeignAt p s limit listing number

-- the line that names it
abbrev pub foreign_text : ℕ → List ℕ
foreign_text n = codes "LINE " ++ decimal n ++ codes " IS NOT OF THIS PROGRAM\n"
