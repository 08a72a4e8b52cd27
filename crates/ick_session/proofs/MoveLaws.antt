-- The answers of commands that make steps.
use Rattle.std.proofs.Common.{◌≡◌, ℕ, ◌<◌, Bool, false, true, List, [], ◌∷◌, ◌++◌, length, codes, refl, ap, sym, subst, ◌∙◌}
use mathlib.Core.Path.{fun_ext}
use Rattle.std.specs.Prelude.{Result, Ok, Err, OnOk, min}
use Rattle.ick_code.specs.meaning.State.{State}
use Rattle.ick_syntax.specs.declared.tree.Name.{Name}
use Rattle.ick_inspect.specs.Text.{Adds}
use Rattle.ick_inspect.specs.declared.positions.LineColumn.{LineColumn}
use Rattle.ick_inspect.specs.declared.text.Text.{Text}
use Rattle.ick_inspect.proofs.AddLaws.{then}
use Rattle.ick_step.specs.Seen.{Seen, present}
use Rattle.ick_session.specs.Answers.{Goes, GoesOut, goes_out, is_out}
use Rattle.ick_session.specs.Breakpoints.{AnswersBreakpoint, Clears, deletes_all}
use Rattle.ick_session.specs.Commands.{Order, any_number, moves, order_of, to_delete_all}
use Rattle.ick_session.specs.declared.commands.Command.{Command}
use Rattle.ick_session.specs.declared.commands.Command.TheVariants as command
use Rattle.ick_session.specs.Session.{Settings, no_breakpoint}
use Rattle.ick_session.specs.Travel.{StopsFirst, comes, goes_on, goes_on_text, going_text, steps_left, way_text}

pub no_list : (l : List ℕ) → length l ≡ 0 → l ≡ []
no_list [] e = refl
no_list (x ∷ xs) e = absurd (cc)

pub out_answers : {A E : Type 0} (r : Result A E) (f : Settings) (positions : List LineColumn) (s t : Seen)
    (old new : Text) → 0 < length (present s).returns →
    OnOk r (StopsFirst f.given (comes f (is_out (present s))) (min any_number (steps_left f.limit s)) s t) →
    OnOk r (Adds old new (way_text f positions s t)) →
    OnOk r ((text : List ℕ) × GoesOut f positions s t text × Adds old new text)
out_answers (Ok x) f positions s t old new some stops adds =
    (way_text f positions s t, goes_out (way_text f positions s t) some (stops, refl), adds)
out_answers (Err e) f positions s t old new some stops adds = tt

pub run_answers : (f g : Settings) (positions : List LineColumn) (most : ℕ) (s t u : Seen) (goes : Bool)
    (old mid new : Text) → g ≡ f → u ≡ t →
    StopsFirst f.given (comes f (λ v. false)) (min most (steps_left f.limit s)) s t →
    Adds old mid (way_text f positions s t) → goes ≡ goes_on g most s t → Adds mid new (going_text goes) →
    (way : List ℕ) × Goes f positions (λ v. false) most s u way × Adds old new (way ++ goes_on_text f most s u)
run_answers f g positions most s t u goes old mid new same is stops adds e more =
    let going : goes ≡ goes_on f most s t = e ∙ ap (λ h. goes_on h most s t) same in
    subst (λ v. (way : List ℕ) × Goes f positions (λ w. false) most s v way
    × Adds old new (way ++ goes_on_text f most s v)) (sym is) (
      way_text f positions s t,
      (stops, refl),
      subst (λ b. Adds old new (way_text f positions s t ++ going_text b)) going
          (then adds more),
    )

pub goes_answers : {A E : Type 0} (r : Result A E) (f : Settings) (positions : List LineColumn) (here : State → Bool)
    (most : ℕ) (s t : Seen) (old new : Text) →
    OnOk r (StopsFirst f.given (comes f here) (min most (steps_left f.limit s)) s t) →
    OnOk r (Adds old new (way_text f positions s t)) →
    OnOk r ((text : List ℕ) × Goes f positions here most s t text × Adds old new text)
goes_answers (Ok x) f positions here most s t old new stops adds = (way_text f positions s t, (stops, refl), adds)
goes_answers (Err e) f positions here most s t old new stops adds = tt

-- the commands that move
pub no_move : (x : Command) → moves (order_of x) ≡ true → ((n : ℕ) → x ≡ command.Step n → ⊥) →
    ((n : ℕ) → x ≡ command.Back n → ⊥) → (x ≡ command.Next → ⊥) → (x ≡ command.Out → ⊥) →
    ((n : ℕ) → x ≡ command.Until n → ⊥) → ((n : ℕ) → x ≡ command.Run n → ⊥) →
    ((b : Bool) → x ≡ command.Choose b → ⊥) → ((name : Name) → x ≡ command.Watch name → ⊥) →
    ((name : Name) → x ≡ command.Why name → ⊥) → ⊥
no_move (command.Step n) e a b c d g h i j k = a n refl
no_move (command.Back n) e a b c d g h i j k = b n refl
no_move command.Next e a b c d g h i j k = c refl
no_move command.Out e a b c d g h i j k = d refl
no_move (command.Until n) e a b c d g h i j k = g n refl
no_move (command.Run n) e a b c d g h i j k = h n refl
no_move (command.Choose done) e a b c d g h i j k = i done refl
no_move (command.Watch name) e a b c d g h i j k = j name refl
no_move (command.Why name) e a b c d g h i j k = k name refl
no_move (command.Break n) e a b c d g h i j k = absurd (cc)
no_move (command.BreakLabel label) e a b c d g h i j k = absurd (cc)
no_move (command.Delete n) e a b c d g h i j k = absurd (cc)
no_move command.DeleteAll e a b c d g h i j k = absurd (cc)
no_move (command.Print names) e a b c d g h i j k = absurd (cc)
no_move (command.Eval text) e a b c d g h i j k = absurd (cc)
no_move command.Stack e a b c d g h i j k = absurd (cc)
no_move command.State e a b c d g h i j k = absurd (cc)
no_move command.List e a b c d g h i j k = absurd (cc)
no_move command.Output e a b c d g h i j k = absurd (cc)
no_move command.Cursor e a b c d g h i j k = absurd (cc)
no_move command.Help e a b c d g h i j k = absurd (cc)
no_move command.Quit e a b c d g h i j k = absurd (cc)

pub cleared : (f g : Settings) (positions : List LineColumn) (order : Order) (old new : Text) → order ≡ to_delete_all →
    Clears f g → Adds old new (codes "no breakpoint is left\n") →
    (text : List ℕ) × AnswersBreakpoint f positions order g text × Adds old new text
cleared f g positions order old new is none adds = (
  codes "no breakpoint is left\n",
  subst (λ o. AnswersBreakpoint f positions o g (codes "no breakpoint is left\n")) (sym is) (deletes_all g none),
  adds,
)

pub none_set : (f : Settings) → ((n : ℕ) → f.breakpoints n ≡ false) → f ≡ record f { breakpoints = no_breakpoint }
none_set f h = ap (λ b. record f { breakpoints = b }) (fun_ext h)
