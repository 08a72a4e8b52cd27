-- What holds of the lines of each step, and of the lines of each session.
use Rattle.std.specs.Prelude.{◌≡◌, ◌≤◌, ◌<◌, ◌+◌, ◌*◌, ◌^◌, ℕ, Bool, false, List, ◌++◌, codes, length}
use Rattle.ick_syntax.specs.declared.tree.Name.{Name}
use Rattle.ick_code.specs.declared.code.Code.{Code}
use Rattle.ick_code.specs.Compiled.{IsCompiled}
use Rattle.ick_code.specs.meaning.Move.{advance}
use Rattle.ick_code.specs.meaning.State.{State}
use Rattle.ick_backtrack.specs.Machine.{Program}
use Rattle.ick_inspect.specs.Names.{variable_text}
use Rattle.ick_inspect.specs.declared.positions.LineColumn.{LineColumn}
use Rattle.ick_step.specs.Seen.{Seen}
use Rattle.ick_session.specs.Changes.{alike, had_at, step_text}
use Rattle.ick_session.specs.Lines.{Talks}
use Rattle.ick_session.specs.Session.{Settings, HasNoRoom}

-- the line of a name
abbrev pub line_of : Name → State → List ℕ
line_of name s = codes "  " ++ variable_text s name ++ codes "\n"

-- If a step changes what a state has at a name, the lines of the step have the name's line.
abbrev pub EachChangeIsShown : Type 0
EachChangeIsShown = (p : Program) (code : Code) (s : State) (chosen : Bool) (name : Name) → IsCompiled p code →
    alike (had_at s name) (had_at (advance p s chosen) name) ≡ false →
    (front : List ℕ) × (back : List ℕ)
    × (step_text p code s chosen ≡ front ++ line_of name (advance p s chosen) ++ back)

-- The count of work has room for a further command after so few lines, if the session was within its limit.
abbrev pub FewLinesHaveRoom : Type 0
FewLinesHaveRoom = (f g : Settings) (positions : List LineColumn) (s t : Seen) (lines : List (List ℕ)) (text : List ℕ) →
    Talks f positions s lines g t text → length s.answers ≤ f.limit →
    s.work + (length lines + 1) * (f.limit + 3000) < 2 ^ 64 → ¬ HasNoRoom f.limit t
