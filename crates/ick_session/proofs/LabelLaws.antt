-- The statement that has a label, and the answer to a breakpoint.
use Rattle.std.proofs.Common.{◌≡◌, ℕ, ◌+◌, ◌<◌, ◌≤◌, ◌∙◌, Bool, true, false, List, [], ◌∷◌, arith, ap}
use Rattle.std.proofs.Common.{if◌then◌else◌, length, subst, sym}
use Rattle.ick_code.specs.meaning.Control.{is_label, place_of}
use Rattle.ick_syntax.specs.StatementTree.{StatementTree}
use Rattle.std.proofs.lemmas.Bool.Decides.{nat_tests}
use Rattle.std.specs.Prelude.{OnOk, Result, Ok, Err}
use Rattle.ick_backtrack.specs.Machine.{Program}
use Rattle.ick_inspect.specs.Text.{Adds}
use Rattle.ick_inspect.specs.declared.positions.LineColumn.{LineColumn}
use Rattle.ick_inspect.specs.declared.text.Text.{Text}
use Rattle.ick_session.specs.Breakpoints.{AnswersBreakpoint, Sets, has_statement, set_text, sets, sets_label}
use Rattle.ick_session.specs.Commands.{to_break, to_break_label}
use Rattle.ick_session.specs.Session.{Settings}

pub place_some : (label : ℕ) (trees : List StatementTree) → 1 ≤ place_of label trees
place_some label [] = omega arith
place_some label (tree ∷ trees) = cases (is_label label tree.label)
  where
    cases : (b : Bool) → 1 ≤ (if b then 1 else (place_of label trees + 1))
    cases true = omega arith
    cases false = omega arith

pub none_at : (p : Program) (n : ℕ) → length p < n → has_statement p n ≡ false
none_at p n far = grind (arith, nat_tests)

pub some_at : (p : Program) (n : ℕ) → 1 ≤ n → n ≤ length p → has_statement p n ≡ true
some_at p n low high = grind (arith, nat_tests)

-- the answer to a breakpoint that was set
pub set_is : {A E : Type 0} (r : Result A E) (f g : Settings) (positions : List LineColumn) (n : ℕ) (old new : Text) →
    has_statement f.program n ≡ true → OnOk r (Sets n true f g) →
    OnOk r (Adds old new (set_text f.program positions n)) →
    OnOk r ((text : List ℕ) × AnswersBreakpoint f positions (to_break n) g text × Adds old new text)
set_is (Ok x) f g positions n old new some set adds = (set_text f.program positions n, sets n g some set, adds)
set_is (Err e) f g positions n old new some set adds = tt

pub label_set : {A E : Type 0} (r : Result A E) (f g : Settings) (positions : List LineColumn) (label n : ℕ) (old new : Text) →
    n ≡ place_of label f.program → has_statement f.program n ≡ true → OnOk r (Sets n true f g) →
    OnOk r (Adds old new (set_text f.program positions n)) →
    OnOk r ((text : List ℕ) × AnswersBreakpoint f positions (to_break_label label) g text × Adds old new text)
label_set (Ok x) f g positions label n old new is some set adds = (
  set_text f.program positions n,
  subst (λ m. AnswersBreakpoint f positions (to_break_label label) g (set_text f.program positions m)) (sym is)
      (sets_label label g (ap (has_statement f.program) (sym is) ∙ some) (subst (λ m. Sets m true f g) is set)),
  adds,
)
label_set (Err e) f g positions label n old new is some set adds = tt
