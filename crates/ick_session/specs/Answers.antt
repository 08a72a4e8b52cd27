-- The answers to commands.
use Rattle.std.specs.Prelude.{◌≡◌, ◌<◌, ◌-◌, ◌==◌, ℕ, Bool, true, false, not, nat_lt, min, List, []}
use Rattle.std.specs.Prelude.{◌++◌, codes, length}
use Rattle.std.specs.Prelude.{Option, Some, None}
use Rattle.ick_syntax.specs.declared.tree.Name.{Name}
use Rattle.ick_code.specs.meaning.State.{State}
use Rattle.ick_code.specs.meaning.Move.{ask}
use Rattle.ick_explorer.specs.ChoiceTexts.{choices_text}
use Rattle.ick_inspect.specs.Names.{variable_text}
use Rattle.ick_inspect.specs.Statements.{list_text}
use Rattle.ick_inspect.specs.Summary.{stack_text, state_text, variables_text}
use Rattle.ick_inspect.specs.declared.positions.LineColumn.{LineColumn}
use Rattle.ick_step.specs.History.{asks_choice, choices_in}
use Rattle.ick_step.specs.Seen.{Seen, present, with_answer}
use Rattle.ick_session.specs.Breakpoints.{AnswersBreakpoint}
use Rattle.ick_session.specs.Changes.{change_text, had_at}
use Rattle.ick_session.specs.Commands.{Order, any_number, to_choose, to_evaluate, to_explain, to_go_back}
use Rattle.ick_session.specs.Commands.{to_go_out, to_help, to_list, to_next, to_print, to_quit, to_run}
use Rattle.ick_session.specs.Commands.{to_run_until, to_show_cursor, to_show_output, to_show_stack, to_show_state}
use Rattle.ick_session.specs.Commands.{to_step, to_watch}
use Rattle.ick_session.specs.Evaluated.{Evaluates}
use Rattle.ick_session.specs.Help.{help_text}
use Rattle.ick_session.specs.Session.{Settings}
use Rattle.ick_session.specs.Travel.{CameSoFar, IsAt, IsBefore, IsLastChange, StopsFirst, comes, differs, goes_on_text}
use Rattle.ick_session.specs.Travel.{last_statement, steps_left, way_text, where_text}

-- the line of a name
abbrev pub name_text : Name → Seen → List ℕ
name_text name s = variable_text (present s) name ++ codes "\n"

-- the line of a name, and which statement changed it, if one did
abbrev pub changed_text : Name → State → (changed : Bool) → (statement : ℕ) → List ℕ
changed_text name s changed n = variable_text s name ++ change_text changed n ++ codes "\n"

-- the line of a name behind further steps. If they have changed it, the last of them has
abbrev pub watched_text : Name → (s t : Seen) → List ℕ
watched_text name s t =
    changed_text name (present t) (differs (had_at (present s) name) name (present t)) (last_statement t)

-- the answer to a command that shows something; `quit` has an empty one
abbrev pub shown : List LineColumn → Seen → Order → Option (List ℕ)
shown positions s (to_print names) = Some (variables_text names (present s))
shown positions s to_show_stack = Some (stack_text (present s))
shown positions s to_show_state = Some (state_text s.program (present s))
shown positions s to_list = Some (list_text s.program positions (present s).place 5)
shown positions s to_show_output = Some (present s).output
shown positions s to_show_cursor = Some (choices_text (choices_in s.answers) ++ codes "\n")
shown positions s to_help = Some help_text
shown positions s to_quit = Some []
shown positions s _ = None

-- steps to the first state of a kind, at most so many; the answer has what they printed, and where the run is then
abbrev pub Goes : Settings → List LineColumn → (State → Bool) → (most : ℕ) →
    (s t : Seen) → (text : List ℕ) → Type 0
Goes f positions here most s t text =
    StopsFirst f.given (comes f here) (min most (steps_left f.limit s)) s t × (text ≡ way_text f positions s t)

-- the newest return address of a state, which has one, was removed
abbrev pub is_out : State → State → Bool
is_out s v = not (nat_lt (length s.returns - 1) (length v.returns))

-- steps until the newest return address was removed, if there is one
pub data GoesOut (f : Settings) (positions : List LineColumn) (s t : Seen) : List ℕ → Type 0 where
  no_return : (present s).returns ≡ [] → t ≡ s → GoesOut f positions s t (codes "the NEXT stack is empty\n")
  goes_out : (text : List ℕ) → 0 < length (present s).returns →
      Goes f positions (is_out (present s)) any_number s t text →
      GoesOut f positions s t text

-- the step of a choice, unless the session is at its limit or no choice is asked
pub data Chooses (f : Settings) (positions : List LineColumn) (done : Bool) (s : Seen) : Seen → List ℕ → Type 0 where
  at_limit : steps_left f.limit s ≡ 0 → Chooses f positions done s s (codes "limit reached\n")
  not_asked : 0 < steps_left f.limit s → asks_choice (ask s.program (present s)) ≡ false →
      Chooses f positions done s s (codes "no choice is asked\n")
  chooses : 0 < steps_left f.limit s → asks_choice (ask s.program (present s)) ≡ true →
      Chooses f positions done s (with_answer (Some done) s)
      (way_text f positions s (with_answer (Some done) s))

-- the line of a name with the statement that changed it last, and where the run is before that step, or that there is
-- no such step
pub data Explains (f : Settings) (positions : List LineColumn) (name : Name) (s t : Seen) : List ℕ → Type 0 where
  changed : (at : ℕ) → IsLastChange s name (length s.answers) (Some at) → IsAt s t at →
      Explains f positions name s t
      (changed_text name (present s) true (present t).place ++ where_text f positions t)
  not_changed : IsLastChange s name (length s.answers) None → IsAt s t (length s.answers) →
      Explains f positions name s t (name_text name s ++ codes "not changed by any step\n")

-- a command leads from one state of a session to another, and has this answer
abbrev pub AnswersCommand : Settings → List LineColumn → (s : Seen) → Order → (t : Seen) →
    (text : List ℕ) → Type 0
AnswersCommand f positions s (to_step n) t text = Goes f positions (λ v. false) n s t text
AnswersCommand f positions s (to_run n) t text =
    (way : List ℕ) × Goes f positions (λ v. false) n s t way × (text ≡ way ++ goes_on_text f n s t)
AnswersCommand f positions s to_go_out t text = GoesOut f positions s t text
AnswersCommand f positions s (to_run_until n) t text = Goes f positions (λ v. v.place == n) any_number s t text
AnswersCommand f positions s to_next t text =
    Goes f positions (λ v. not (nat_lt (length (present s).returns) (length v.returns))) any_number s t text
AnswersCommand f positions s (to_watch name) t text =
    (way : List ℕ) × Goes f positions (differs (had_at (present s) name) name) any_number s t way
    × (text ≡ way ++ watched_text name s t)
AnswersCommand f positions s (to_go_back n) t text =
    IsAt s t (length s.answers - n) × (text ≡ where_text f positions t)
AnswersCommand f positions s (to_choose done) t text = Chooses f positions done s t text
AnswersCommand f positions s (to_explain name) t text = Explains f positions name s t text
AnswersCommand f positions s (to_evaluate expression) t text = (t ≡ s) × Evaluates (present s) expression text
AnswersCommand f positions s order t text = (t ≡ s) × (shown positions s order ≡ Some text)

-- A command that memory refused leads to this state: its steps were made as far as memory allowed, or the session has
-- gone back too far, or nothing has changed.
abbrev pub StopsShort : Settings → (s : Seen) → Order → (t : Seen) → Type 0
StopsShort f s (to_step n) t = CameSoFar f (λ v. false) s t
StopsShort f s (to_run n) t = CameSoFar f (λ v. false) s t
StopsShort f s (to_run_until n) t = CameSoFar f (λ v. v.place == n) s t
StopsShort f s to_next t =
    CameSoFar f (λ v. not (nat_lt (length (present s).returns) (length v.returns))) s t
StopsShort f s to_go_out t = CameSoFar f (is_out (present s)) s t
StopsShort f s (to_watch name) t = CameSoFar f (differs (had_at (present s) name) name) s t
StopsShort f s (to_go_back n) t = IsBefore s t
StopsShort f s (to_explain name) t = IsBefore s t
StopsShort f s order t = t ≡ s

-- A command leads to settings and to a state of a session, and has this answer. A command of breakpoints changes no
-- state, and the others change no settings.
pub data Answers (f : Settings) (positions : List LineColumn) (s : Seen) (order : Order)
    : (g : Settings) → (t : Seen) → (text : List ℕ) → Type 0 where
  changes_state : (t : Seen) (text : List ℕ) → AnswersCommand f positions s order t text →
      Answers f positions s order f t text
  changes_settings : (g : Settings) (text : List ℕ) → AnswersBreakpoint f positions order g text →
      Answers f positions s order g s text
