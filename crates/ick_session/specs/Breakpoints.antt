-- What the commands of breakpoints change, and their answers.
use Rattle.std.specs.Prelude.{◌≡◌, ◌≢◌, ℕ, Bool, true, false, not, nat_lt, ◌&&◌, List, ◌++◌, codes, decimal, length}
use Rattle.ick_backtrack.specs.Machine.{Program}
use Rattle.ick_inspect.specs.Statements.{statement_text}
use Rattle.ick_inspect.specs.declared.positions.LineColumn.{LineColumn}
use Rattle.ick_code.specs.meaning.Control.{place_of}
use Rattle.ick_session.specs.Commands.{Order, to_break, to_break_label, to_delete, to_delete_all}
use Rattle.ick_session.specs.Session.{Settings}

-- this statement has a breakpoint or not, and all else is as before
pub record Sets (n : ℕ) (has : Bool) (f g : Settings) : Type 0 where
  pub same : g ≡ record f { breakpoints = g.breakpoints }
  pub there : g.breakpoints n ≡ has
  pub others : (m : ℕ) → m ≢ n → g.breakpoints m ≡ f.breakpoints m

-- no statement has a breakpoint, and all else is as before
pub record Clears (f g : Settings) : Type 0 where
  pub same : g ≡ record f { breakpoints = g.breakpoints }
  pub none : (m : ℕ) → g.breakpoints m ≡ false

-- a program has a statement of this number
abbrev pub has_statement : Program → ℕ → Bool
has_statement p n = nat_lt 0 n && not (nat_lt (length p) n)

abbrev pub set_text : Program → List LineColumn → ℕ → List ℕ
set_text p positions n = codes "breakpoint at " ++ statement_text p positions n ++ codes "\n"

abbrev pub last_text : Program → List ℕ
last_text p = codes "the last statement is " ++ decimal (length p) ++ codes "\n"

-- a command of breakpoints leads to settings, and has this answer
pub data AnswersBreakpoint (f : Settings) (positions : List LineColumn) : Order → (g : Settings) → List ℕ → Type 0 where
  sets : (n : ℕ) (g : Settings) → has_statement f.program n ≡ true → Sets n true f g →
      AnswersBreakpoint f positions (to_break n) g (set_text f.program positions n)
  no_statement : (n : ℕ) → has_statement f.program n ≡ false →
      AnswersBreakpoint f positions (to_break n) f (last_text f.program)
  sets_label : (label : ℕ) (g : Settings) → has_statement f.program (place_of label f.program) ≡ true →
      Sets (place_of label f.program) true f g →
      AnswersBreakpoint f positions (to_break_label label) g
      (set_text f.program positions (place_of label f.program))
  no_label : (label : ℕ) → has_statement f.program (place_of label f.program) ≡ false →
      AnswersBreakpoint f positions (to_break_label label) f (codes "no statement has this label\n")
  deletes : (n : ℕ) (g : Settings) → f.breakpoints n ≡ true → Sets n false f g →
      AnswersBreakpoint f positions (to_delete n) g (codes "breakpoint deleted\n")
  has_none : (n : ℕ) → f.breakpoints n ≡ false →
      AnswersBreakpoint f positions (to_delete n) f (codes "no breakpoint is there\n")
  deletes_all : (g : Settings) → Clears f g →
      AnswersBreakpoint f positions to_delete_all g (codes "no breakpoint is left\n")

-- a command of breakpoints
abbrev pub is_breakpoint : Order → Bool
is_breakpoint (to_break n) = true
is_breakpoint (to_break_label label) = true
is_breakpoint (to_delete n) = true
is_breakpoint to_delete_all = true
is_breakpoint order = false
