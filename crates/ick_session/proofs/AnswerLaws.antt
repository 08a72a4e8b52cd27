-- The answers to commands that show something, and the others.
use Rattle.std.proofs.Common.{◌≡◌, ◌≢◌, ◌==◌, inl, inr, ℕ, Bool, true, false, List, [], Option, Some, None, is_some}
use Rattle.std.proofs.Common.{arith, refl, ap, sym, subst, ◌∙◌, ◌++◌, ◌<◌, codes, length}
use Rattle.ick_inspect.proofs.AddLaws.{same}
use Rattle.std.specs.Prelude.{decimal}
use Rattle.std.specs.Prelude.{◌⊎◌, ◌≤◌, ◌+◌, ◌^◌, Result, Ok, Err, IfErr, OnOk, option_map}
use Rattle.ick_explorer.specs.declared.errors.RunsError.{RunsError}
use Rattle.ick_explorer.specs.declared.errors.RunsError.TheVariants.{NoMemory, WorkFull}
use Rattle.ick_inspect.specs.Text.{Adds}
use Rattle.ick_inspect.specs.declared.text.Text.{Text}
use Rattle.ick_inspect.specs.declared.positions.LineColumn.{LineColumn}
use Rattle.ick_step.specs.Seen.{Seen, present}
use Rattle.ick_syntax.specs.declared.tree.Name.{Name}
use Rattle.ick_inspect.specs.Names.{variable_text}
use Rattle.ick_session.specs.Answers.{Answers, AnswersCommand, StopsShort, changed_text, changes_settings, changes_state}
use Rattle.ick_session.specs.Answers.{shown, watched_text}
use Rattle.ick_session.specs.Breakpoints.{AnswersBreakpoint, deletes, deletes_all, has_none, no_label, no_statement}
use Rattle.ick_session.specs.Breakpoints.{is_breakpoint, sets, sets_label}
use Rattle.ick_session.specs.Changes.{change_text, had_at}
use Rattle.ick_session.specs.Evaluated.{Evaluates}
use Rattle.ick_session.specs.NameSnapshot.{Keeps, had}
use Rattle.ick_session.specs.declared.name_snapshot.NameSnapshot.{NameSnapshot}
use Rattle.ick_session.specs.Travel.{GoesOn, differs, last_statement}
use Rattle.ick_session.proofs.TravelLaws.{came_nowhere, differs_later, is_before_same}
use Rattle.ick_session.specs.Commands.{Order, first_word, moves, order_in, order_of, to_break, to_break_label}
use Rattle.ick_session.specs.Commands.{to_choose, to_delete, to_evaluate, verb_in}
use Rattle.ick_session.specs.Commands.{to_delete_all, to_explain, to_go_back, to_go_out, to_help, to_list, to_next}
use Rattle.ick_session.specs.Commands.{to_print, to_quit, to_run, to_run_until, to_show_cursor, to_show_output}
use Rattle.ick_session.specs.Commands.{to_show_stack, to_show_state, to_step, to_watch}
use Rattle.ick_session.specs.Lines.{AnswersLine, Says, full, short, short_text, unknown_text, unread_text}
use Rattle.ick_session.specs.Session.{Settings, HasNoRoom, IsStepError, most_work}
use Rattle.ick_session.specs.declared.commands.Command.{Command}
use Rattle.ick_session.specs.declared.commands.Command.TheVariants as command

pub some_of : {A : Type 0} (o : Option A) → is_some o ≡ true → (x : A) × (o ≡ Some x)
some_of None e = absurd (cc)
some_of (Some x) e = (x, refl)

pub shown_answers : (f : Settings) (positions : List LineColumn) (s : Seen) (order : Order) (text : List ℕ) →
    shown positions s order ≡ Some text → AnswersCommand f positions s order s text
shown_answers f positions s (to_step n) text e = absurd (cc)
shown_answers f positions s (to_go_back n) text e = absurd (cc)
shown_answers f positions s to_next text e = absurd (cc)
shown_answers f positions s (to_run_until n) text e = absurd (cc)
shown_answers f positions s (to_run n) text e = absurd (cc)
shown_answers f positions s to_go_out text e = absurd (cc)
shown_answers f positions s (to_break n) text e = absurd (cc)
shown_answers f positions s (to_break_label n) text e = absurd (cc)
shown_answers f positions s (to_evaluate expression) text e = absurd (cc)
shown_answers f positions s (to_delete n) text e = absurd (cc)
shown_answers f positions s to_delete_all text e = absurd (cc)
shown_answers f positions s (to_choose done) text e = absurd (cc)
shown_answers f positions s (to_watch name) text e = absurd (cc)
shown_answers f positions s (to_explain name) text e = absurd (cc)
shown_answers f positions s (to_print names) text e = (refl, e)
shown_answers f positions s to_show_stack text e = (refl, e)
shown_answers f positions s to_show_state text e = (refl, e)
shown_answers f positions s to_list text e = (refl, e)
shown_answers f positions s to_show_output text e = (refl, e)
shown_answers f positions s to_show_cursor text e = (refl, e)
shown_answers f positions s to_help text e = (refl, e)
shown_answers f positions s to_quit text e = (refl, e)

pub short_err : {A : Type 0} (r : Result A RunsError) (f g : Settings) (s t : Seen) (order : Order) → g ≡ f →
    StopsShort f s order t → IfErr r (λ e. (g ≡ f) × (e ≡ NoMemory → StopsShort f s order t))
short_err (Ok x) f g s t order same stops = tt
short_err (Err e) f g s t order same stops = (same, λ memory. stops)

-- a command that changes no settings, from a session that is as it was before
pub moved_answers : (f g h : Settings) (positions : List LineColumn) (s u t : Seen) (order : Order) (old mid new : Text)
    {A E : Type 0} (r : Result A E) → g ≡ f → h ≡ g → u ≡ s → mid ≡ old →
    OnOk r ((text : List ℕ) × AnswersCommand g positions u order t text × Adds mid new text) →
    OnOk r ((text : List ℕ) × Answers f positions s order h t text × Adds old new text)
moved_answers f g h positions s u t order old mid new (Err e) ef eh es eo found = tt
moved_answers f g h positions s u t order old mid new (Ok x) ef eh es eo found = (
  found.0,
  subst (λ k. Answers f positions s order k t found.0) (sym (eh ∙ ef)) (changes_state t found.0
      (subst (λ k. AnswersCommand k positions s order t found.0) ef
      (subst (λ v. AnswersCommand g positions v order t found.0) es found.1))),
  subst (λ o. Adds o new found.0) eo found.2,
)

-- the answer to an expression, from a session that is as it was before
pub still_answers : (f g : Settings) (positions : List LineColumn) (s u : Seen) (order : Order) (expression : List ℕ)
    (old mid new : Text) → g ≡ f → u ≡ s → mid ≡ old → order ≡ to_evaluate expression →
    (answer : List ℕ) × Evaluates (present u) expression answer × Adds mid new answer →
    (text : List ℕ) × Answers f positions s order g u text × Adds old new text
still_answers f g positions s u order expression old mid new ef es eo is found = (
  found.0,
  subst (λ k. Answers f positions s order k u found.0) (sym ef) (changes_state u found.0
      (subst (λ o. AnswersCommand f positions s o u found.0) (sym is)
      (es, subst (λ v. Evaluates (present v) expression found.0) es found.1))),
  subst (λ o. Adds o new found.0) eo found.2,
)

-- a command of breakpoints
pub set_answers : (f g : Settings) (positions : List LineColumn) (s t : Seen) (order : Order) (old mid new : Text) →
    t ≡ s → mid ≡ old → (text : List ℕ) × AnswersBreakpoint f positions order g text × Adds mid new text →
    (text : List ℕ) × Answers f positions s order g t text × Adds old new text
set_answers f g positions s t order old mid new e eo found = (
  found.0,
  subst (λ v. Answers f positions s order g v found.0) (sym e) (changes_settings g found.0 found.1),
  subst (λ o. Adds o new found.0) eo found.2,
)

pub set_same : (f g : Settings) (positions : List LineColumn) (order : Order) (text : List ℕ) →
    AnswersBreakpoint f positions order g text → g ≡ record f { breakpoints = g.breakpoints }
set_same f g positions order text (sets n h some e) = e.same
set_same f g positions order text (no_statement n none) = refl
set_same f g positions order text (sets_label label h some e) = e.same
set_same f g positions order text (no_label label none) = refl
set_same f g positions order text (deletes n h some e) = e.same
set_same f g positions order text (has_none n none) = refl
set_same f g positions order text (deletes_all h e) = e.same

-- a command that memory refused at once
pub short_nowhere : (f : Settings) (s : Seen) (order : Order) → StopsShort f s order s
short_nowhere f s (to_step n) = came_nowhere f _ s
short_nowhere f s (to_run n) = came_nowhere f _ s
short_nowhere f s (to_run_until n) = came_nowhere f _ s
short_nowhere f s to_next = came_nowhere f _ s
short_nowhere f s to_go_out = came_nowhere f _ s
short_nowhere f s (to_watch name) = came_nowhere f _ s
short_nowhere f s (to_go_back n) = is_before_same s s refl
short_nowhere f s (to_explain name) = is_before_same s s refl
short_nowhere f s (to_choose done) = refl
short_nowhere f s (to_break n) = refl
short_nowhere f s (to_break_label label) = refl
short_nowhere f s (to_evaluate expression) = refl
short_nowhere f s (to_delete n) = refl
short_nowhere f s to_delete_all = refl
short_nowhere f s (to_print names) = refl
short_nowhere f s to_show_stack = refl
short_nowhere f s to_show_state = refl
short_nowhere f s to_list = refl
short_nowhere f s to_show_output = refl
short_nowhere f s to_show_cursor = refl
short_nowhere f s to_help = refl
short_nowhere f s to_quit = refl

pub short_still : (moves : Bool) (t : Seen) (old new : Text) → moves ≡ false → Adds old new (codes "out of memory\n") →
    Adds old new (short_text moves t)
short_still false t old new e adds = adds
short_still true t old new e adds = absurd (cc)

pub short_moved : (moves : Bool) (t : Seen) (old new : Text) (n : ℕ) → moves ≡ true → n ≡ length t.answers →
    Adds old new (codes "stopped after " ++ decimal n ++ codes " steps: out of memory\n") →
    Adds old new (short_text moves t)
short_moved false t old new n e is adds = absurd (cc)
short_moved true t old new n e is adds =
    same (ap (λ k. codes "stopped after " ++ decimal k ++ codes " steps: out of memory\n") is) adds

-- the command of a line
pub order_is : (line : List ℕ) (o : Option Command) (x : Command) → option_map order_of o ≡ order_in line →
    o ≡ Some x → order_in line ≡ Some (order_of x)
order_is line o x e f = sym e ∙ ap (option_map order_of) f

pub no_order : (line : List ℕ) (o : Option Command) → option_map order_of o ≡ order_in line → o ≡ None →
    order_in line ≡ None
no_order line o e f = sym e ∙ ap (option_map order_of) f

pub not_quit : (x : Command) → (x ≡ command.Quit → ⊥) → order_of x ≢ to_quit
not_quit (command.Step n) h = λ e. cc
not_quit (command.Back n) h = λ e. cc
not_quit command.Next h = λ e. cc
not_quit (command.Until n) h = λ e. cc
not_quit (command.Run n) h = λ e. cc
not_quit command.Out h = λ e. cc
not_quit (command.Break n) h = λ e. cc
not_quit (command.BreakLabel label) h = λ e. cc
not_quit (command.Eval text) h = λ e. cc
not_quit (command.Delete n) h = λ e. cc
not_quit command.DeleteAll h = λ e. cc
not_quit (command.Choose done) h = λ e. cc
not_quit (command.Print names) h = λ e. cc
not_quit command.Stack h = λ e. cc
not_quit command.State h = λ e. cc
not_quit command.List h = λ e. cc
not_quit (command.Watch name) h = λ e. cc
not_quit (command.Why name) h = λ e. cc
not_quit command.Output h = λ e. cc
not_quit command.Cursor h = λ e. cc
not_quit command.Help h = λ e. cc
not_quit command.Quit h = absurd (h refl)

-- a command that has room for its steps doesn't find the count of work full
-- why a command is refused
abbrev pub IsRefusal : (moves : Bool) → (limit : ℕ) → (s t : Seen) → RunsError → Type 0
IsRefusal moves limit s t e =
    (e ≡ NoMemory) ⊎ ((e ≡ WorkFull) × (moves ≡ true) × HasNoRoom limit s × (t ≡ s))

pub no_full : {A : Type 0} (r : Result A RunsError) (moves : Bool) (limit : ℕ) (s t : Seen) → IfErr r (IsStepError t) →
    t.work ≤ s.work + most_work limit s → s.work + (most_work limit s + 1000) < 2 ^ 64 →
    IfErr r (IsRefusal moves limit s t)
no_full (Ok x) moves limit s t errors few room = tt
no_full (Err e) moves limit s t (inl memory) few room = inl memory
no_full (Err e) moves limit s t (inr no_work) few room = absurd (omega (arith, no_work.1))

pub refused_from : {A : Type 0} (r : Result A RunsError) (moves : Bool) (limit : ℕ) (s u t : Seen) (left : ℕ) →
    left ≡ limit → u ≡ s → IfErr r (IsStepError t) → t.work ≤ u.work + most_work left u →
    u.work + (most_work left u + 1000) < 2 ^ 64 → IfErr r (IsRefusal moves limit s t)
refused_from r moves limit s u t left el es errors few room =
    subst (λ v. IfErr r (IsRefusal moves limit v t)) es
    (subst (λ n. IfErr r (IsRefusal moves n u t)) el (no_full r moves left u t errors few room))

-- a command that shows nothing, sets no breakpoint and has no expression moves
pub moves_else : (x : Command) (positions : List LineColumn) (s : Seen) →
    is_some (shown positions s (order_of x)) ≡ false → is_breakpoint (order_of x) ≡ false →
    ((text : _) → x ≡ command.Eval text → ⊥) → moves (order_of x) ≡ true
moves_else (command.Step n) positions s e f h = refl
moves_else (command.Back n) positions s e f h = refl
moves_else command.Next positions s e f h = refl
moves_else command.Out positions s e f h = refl
moves_else (command.Until n) positions s e f h = refl
moves_else (command.Run n) positions s e f h = refl
moves_else (command.Choose done) positions s e f h = refl
moves_else (command.Watch name) positions s e f h = refl
moves_else (command.Why name) positions s e f h = refl
moves_else (command.Eval text) positions s e f h = absurd (h text refl)
moves_else (command.Break n) positions s e f h = absurd (cc)
moves_else (command.BreakLabel label) positions s e f h = absurd (cc)
moves_else (command.Delete n) positions s e f h = absurd (cc)
moves_else command.DeleteAll positions s e f h = absurd (cc)
moves_else (command.Print names) positions s e f h = absurd (cc)
moves_else command.Stack positions s e f h = absurd (cc)
moves_else command.State positions s e f h = absurd (cc)
moves_else command.List positions s e f h = absurd (cc)
moves_else command.Output positions s e f h = absurd (cc)
moves_else command.Cursor positions s e f h = absurd (cc)
moves_else command.Help positions s e f h = absurd (cc)
moves_else command.Quit positions s e f h = absurd (cc)

-- the answer to a line that is no command
pub unknown_is : (line word : List ℕ) (r : Bool) → word ≡ first_word line → r ≡ (length word == 0) → r ≡ false →
    unread_text word (verb_in word) ≡ unknown_text line
unknown_is line word r e f g =
    let some : (length (first_word line) == 0) ≡ false = ap (λ w. length w == 0) (sym e) ∙ (sym f ∙ g) in
    ap (λ w. unread_text w (verb_in w)) e ∙ rw some refl

pub blank_is : (line word : List ℕ) (r : Bool) → word ≡ first_word line → r ≡ (length word == 0) → r ≡ true →
    [] ≡ unknown_text line
blank_is line word r e f g =
    let none : (length (first_word line) == 0) ≡ true = ap (λ w. length w == 0) (sym e) ∙ (sym f ∙ g) in rw none refl

pub none_left : (o : Option Command) → ((x : Command) → o ≡ Some x → ⊥) → o ≡ None
none_left None h = refl
none_left (Some x) h = absurd (h x refl)

change_same : (changed : Bool) (n m : ℕ) → (changed ≡ true → n ≡ m) → change_text changed n ≡ change_text changed m
change_same true n m h = ap (change_text true) (h refl)
change_same false n m h = refl

-- the line of a watched name
pub watched_is : (name : Name) (most : ℕ) (s t : Seen) (held : NameSnapshot) (last : ℕ) → Keeps held (present s) name →
    GoesOn most s t → (length s.answers < length t.answers → last ≡ last_statement t) →
    changed_text name (present t) (differs (had held) name (present t)) last ≡ watched_text name s t
watched_is name most s t held last keeps on is =
    ap (λ h. changed_text name (present t) (differs h name (present t)) last) keeps.had_is
    ∙ ap (λ x. variable_text (present t) name ++ x ++ codes "\n")
    (change_same (differs (had_at (present s) name) name (present t)) last (last_statement t)
    (λ e. is (differs_later name most s t on e)))

-- the answer to a command that was refused
pub line_refused : (f g : Settings) (positions : List LineColumn) (s t : Seen) (line : List ℕ) (order : Order)
    (e : RunsError) (mid new : Text) → order_in line ≡ Some order → order ≢ to_quit →
    t.work ≤ s.work + most_work f.limit s → IsRefusal (moves order) f.limit s t e →
    g ≡ f → (e ≡ NoMemory → StopsShort f s order t) →
    (e ≡ WorkFull → Adds mid new (codes "too many steps were made\n")) →
    (e ≡ NoMemory → Adds mid new (short_text (moves order) t)) →
    mid.bytes.items ≡ [] →
    (text : List ℕ) × AnswersLine f positions s line g t text true × Says new text
line_refused f g positions s t line order e mid new is proper few (inl memory) same stops full_is short_is none = (
  short_text (moves order) t,
  subst (λ h. AnswersLine f positions s line h t (short_text (moves order) t) true) (sym same)
      (short order t is proper few (stops memory)),
  λ sound. (short_is memory).bytes sound ∙ ap (λ l. l ++ short_text (moves order) t) none,
)
line_refused f g positions s t line order e mid new is proper few (inr no_room) same stops full_is short_is none = (
  codes "too many steps were made\n",
  subst (λ h. AnswersLine f positions s line h t (codes "too many steps were made\n") true) (sym same)
      (subst (λ v. AnswersLine f positions s line f v (codes "too many steps were made\n") true) (sym no_room.3)
      (full order is proper no_room.1 no_room.2)),
  λ sound. (full_is no_room.0).bytes sound ∙ ap (λ l. l ++ codes "too many steps were made\n") none,
)
