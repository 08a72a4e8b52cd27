-- Defines the listing of the outcomes of a program without a limit.
use Rattle.std.specs.Prelude.{◌≡◌, ℕ, ◌+◌, ◌<◌, Bool, true, false, List, [], ◌∷◌, ◌++◌, length, map, codes, decimal}
use Rattle.std.specs.Prelude.{Option, Some, None, if◌then◌else◌}
use Rattle.std.specs.List.{Contains}
use Rattle.std.specs.Str.{bytes_eq}
use Rattle.ick_bits.specs.Quoted.{quoted}
use Rattle.ick_code.specs.meaning.State.{State}
use Rattle.ick_outcomes.specs.Programs.{Program}
use Rattle.ick_explorer.specs.ChoiceTexts.{choices_text}
use Rattle.ick_explorer.specs.Order.{IsIncreasing}
use Rattle.ick_outcomes.specs.Tallies.{Test as OutcomeTest}
use Rattle.ick_outcomes.specs.Lines.{output_text}
use Rattle.ick_outcomes.specs.Texts.{IsNumberText}
use Rattle.ick_chain.specs.Chains.{IsExact}
use Rattle.ick_chain.specs.Counts.{CountsRuns}
use Rattle.ick_chain.specs.FirstRuns.{IsFewest, IsFirst}
use Rattle.ick_chain.specs.ExactTexts.{IsRatio, IsWeight}
use Rattle.ick_chain.specs.Limits.{Test}
use Rattle.ick_chain.specs.Means.{IsMeanOf}
use Rattle.ick_chain.specs.Rows.{Row, AreRows, IsTestOf}
use Rattle.ick_chain.specs.Shown.{IsShown, NeverEnds}
use Rattle.ick_chain.specs.Tallied.{IsOfEnded}

-- an outcome with its weight; the number of its runs, if they aren't infinitely many; and the choices of one of them
pub record Line : Type 0 where
  pub row : Row
  pub count : Option ℕ
  pub shown : List Bool

-- for each number of choices, some run with the outcome of a row has more: so its runs are infinitely many
abbrev pub HasEndlessRuns : Program → State → Row → Type 0
HasEndlessRuns p s r = (n : ℕ) → (c : List Bool) × (n < length c) × IsShown p s r.output r.end c

-- so many runs have the outcome of a row, under each limit, from some limit on
abbrev pub HasRuns : Program → State → Row → Option ℕ → Type 0
HasRuns p s r None = HasEndlessRuns p s r
HasRuns p s r (Some n) = (q : OutcomeTest) → IsTestOf r.output r.end q → IsOfEnded q → CountsRuns p s q n

-- the choices of the run that is shown for a row: the first of its runs, in the order of listings. If its runs aren't
-- counted, it is the first of those with the fewest choices
abbrev pub IsRun : Program → State → Row → Option ℕ → List Bool → Type 0
IsRun p s r None c = IsFewest p s r.output r.end c
IsRun p s r (Some n) c = IsFirst p s r.output r.end c

-- a line has the number of the runs with its outcome, and the choices of one of them
pub record IsLine (p : Program) (s : State) (l : Line) : Type 0 where
  pub counted : HasRuns p s l.row l.count
  pub shown : IsShown p s l.row.output l.row.end l.shown
  pub run : IsRun p s l.row l.count l.shown

-- the lines have all outcomes with exact weights, in so many parts, in the order of the choices. Runs that never end
-- have the weight `never`
pub record AreLines (p : Program) (s : State) (parts never : ℕ) (lines : List Line) : Type 0 where
  pub weight : Test → ℕ
  pub steps : ℕ
  pub exact : IsExact p s parts weight never steps
  pub rows : AreRows weight (map (λ l. l.row) lines)
  pub each : (l : Line) → Contains lines l → IsLine p s l
  pub increasing : IsIncreasing (map (λ l. l.shown) lines)

-- the number of runs, or a star if they are infinitely many
pub data IsCount : Option ℕ → List ℕ → Type 0 where
  number : (n : ℕ) (text : List ℕ) → IsNumberText n text → IsCount (Some n) text
  star : IsCount None (codes "*")

abbrev pub line_parts : (silent : Bool) → Line → (count weight : List ℕ) → List ℕ
line_parts silent l count weight = count ++ codes " " ++ weight ++ codes " " ++ choices_text l.shown ++ codes " "
    ++ l.row.end ++ output_text silent l.row.output ++ codes "\n"

-- the text of a line: the number of its runs, their weight, the choices, the end and the output, if it isn't left out
pub record IsLineText (exact silent : Bool) (parts : ℕ) (l : Line) (text : List ℕ) : Type 0 where
  pub count : List ℕ
  pub weight : List ℕ
  pub counted : IsCount l.count count
  pub weighed : IsWeight exact l.row.weight parts weight
  pub same : text ≡ line_parts silent l count weight

-- the texts of lines, one after another
pub data AreLineTexts (exact silent : Bool) (parts : ℕ) : List Line → List ℕ → Type 0 where
  no_line : AreLineTexts exact silent parts [] []
  one_more : (ls : List Line) (l : Line) (text line : List ℕ) → AreLineTexts exact silent parts ls text →
      IsLineText exact silent parts l line → AreLineTexts exact silent parts (ls ++ l ∷ []) (text ++ line)

abbrev pub never_parts : (silent : Bool) → List ℕ → List Bool → List ℕ
never_parts silent weight c = codes "* " ++ weight ++ codes " " ++ choices_text c ++ codes " NEVER"
    ++ output_text silent [] ++ codes "\n"

-- the text of the runs that never end: none if they weigh nothing, and else with choices that lead to a state from
-- which no run ends
pub data IsNeverText (p : Program) (s : State) (exact : Bool) (parts never : ℕ) : List ℕ → Type 0 where
  nothing : never ≡ 0 → IsNeverText p s exact parts never []
  something : (c : List Bool) (weight : List ℕ) → 0 < never → NeverEnds p s c → IsWeight exact never parts weight →
      IsNeverText p s exact parts never (never_parts p.silent weight c)

-- the lines, the line of the runs that never end, and a last line
pub record IsListText (p : Program) (s : State) (exact : Bool) (parts never : ℕ) (ls : List Line) (text : List ℕ)
    : Type 0 where
  pub lines : List ℕ
  pub last : List ℕ
  pub are_lines : AreLineTexts exact p.silent parts ls lines
  pub is_last : IsNeverText p s exact parts never last
  pub same : text ≡ lines ++ last ++ codes "DONE\n"

-- the sum of two numbers of runs, if both are there
abbrev pub both : Option ℕ → Option ℕ → Option ℕ
both (Some m) (Some n) = Some (m + n)
both (Some m) None = None
both None b = None

-- the number of the runs of all lines, if they aren't infinitely many
abbrev pub all_runs : List Line → Option ℕ
all_runs [] = Some 0
all_runs (l ∷ ls) = both l.count (all_runs ls)

-- the mean number of steps of the runs from s, in lowest terms
pub record IsMeanText (p : Program) (s : State) (text : List ℕ) : Type 0 where
  pub parts : ℕ
  pub steps : ℕ
  pub mean : IsMeanOf p s parts steps
  pub text_is : IsRatio steps parts text

-- a number and a noun, which is in the plural unless the number is 1
abbrev pub counted : (digits noun : List ℕ) → List ℕ
counted digits noun = digits ++ codes " " ++ noun ++ (if bytes_eq digits (codes "1") then [] else codes "S")

-- so many outcomes and runs
abbrev pub numbers_text : ℕ → (runs : List ℕ) → List ℕ
numbers_text outcomes runs = counted (decimal outcomes) (codes "OUTCOME") ++ codes ", " ++ counted runs (codes "RUN")

-- The line that says how many outcomes and runs there are. Runs that never end are infinitely many. If runs that end
-- are infinitely many, and none never ends, it has the mean number of their steps too
pub data IsTotal (p : Program) (s : State) (never : ℕ) (ls : List Line) : List ℕ → Type 0 where
  finite : (n : ℕ) (runs : List ℕ) → never ≡ 0 → all_runs ls ≡ Some n → IsNumberText n runs →
      IsTotal p s never ls (numbers_text (length ls) runs ++ codes "\n")
  stuck : 0 < never → IsTotal p s never ls (numbers_text (length ls) (codes "*") ++ codes "\n")
  endless : (mean : List ℕ) → never ≡ 0 → all_runs ls ≡ None → IsMeanText p s mean → IsTotal p s never ls
      (numbers_text (length ls) (codes "*") ++ codes ", " ++ mean ++ codes " STEPS\n")

abbrev pub IsTextOf : Program → State → (exact total : Bool) → (parts never : ℕ) → List Line → List ℕ → Type 0
IsTextOf p s exact true parts never ls text = IsTotal p s never ls text
IsTextOf p s exact false parts never ls text = IsListText p s exact parts never ls text

-- the text lists the outcomes of the runs from s, each with its exact weight; or it says only how many there are
pub record IsExactListing (p : Program) (s : State) (exact total : Bool) (text : List ℕ) : Type 0 where
  pub parts : ℕ
  pub never : ℕ
  pub lines : List Line
  pub are_lines : AreLines p s parts never lines
  pub text_is : IsTextOf p s exact total parts never lines text
