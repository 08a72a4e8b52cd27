-- Defines the tail that is kept from line to line, for private contracts.
use Rattle.std.specs.Prelude.{◌≡◌, ℕ, List, ◌++◌, codes, Option, IfSome}
use Rattle.ick_bits.specs.Quoted.{quoted}
use Rattle.ick_backtrack.specs.declared.asking.End.{End}
use Rattle.ick_backtrack.specs.Asked.{Finish, finish_of}
use Rattle.ick_explorer.specs.Lines.{end_text}

-- the line that was built last, and the tail that is kept
pub record Built : Type 0 where
  pub line : List ℕ
  pub tail : List ℕ

-- what follows the choices in a line
abbrev pub tail_of : Finish → List ℕ → List ℕ
tail_of finish output = codes " " ++ end_text finish ++ codes " " ++ quoted output ++ codes "\n"

-- the text is the tail of a run with this end and this output, if there is an end
abbrev pub KeepsTail : List ℕ → Option End → List ℕ → Type 0
KeepsTail text end output = IfSome end (λ e. text ≡ tail_of (finish_of e) output)
