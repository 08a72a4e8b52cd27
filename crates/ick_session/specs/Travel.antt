-- Where steps stop that lead to a state of some kind, and which step last changed a name.
use Rattle.std.specs.Prelude.{◌≡◌, ℕ, ◌+◌, ◌-◌, ◌==◌, ◌<◌, ◌≤◌, ◌⊎◌, Bool, true}
use Rattle.std.specs.Prelude.{false, not, nat_lt, ◌&&◌, ◌||◌, List, [], ◌++◌}
use Rattle.std.specs.Prelude.{codes, get_or, is_some, length, option_map, take, if◌then◌else◌, Option, None, Some}
use Rattle.ick_syntax.specs.declared.tree.Name.{Name}
use Rattle.ick_code.specs.meaning.Move.{Asking, plain, choice, ended, ask}
use Rattle.ick_code.specs.meaning.State.{State}
use Rattle.ick_inspect.specs.declared.positions.LineColumn.{LineColumn}
use Rattle.ick_runs.specs.Chosen.{Chosen, answer_of}
use Rattle.ick_step.specs.History.{after, choices_in}
use Rattle.ick_step.specs.Seen.{Seen, present, with_answer}
use Rattle.ick_session.specs.Changes.{Had, alike, had_at, printed_text}
use Rattle.ick_session.specs.NameSnapshot.{had}
use Rattle.ick_session.specs.Shown.{here_text}
use Rattle.ick_session.specs.Session.{Settings}
use Rattle.ick_session.specs.declared.session.travel.Target.{Target}
use Rattle.ick_session.specs.declared.session.travel.Target.TheVariants.{Nowhere, Statement, Depth, Change}

-- a state has something else at a name
abbrev pub differs : Had → Name → State → Bool
differs held name s = not (alike held (had_at s name))

abbrev pub has_come : Target → State → Bool
has_come Nowhere s = false
has_come (Statement n) s = s.place == n
has_come (Depth n) s = not (nat_lt n (length s.returns))
has_come (Change held) s = differs (had held.now) held.now.name s

-- the state behind the first steps of a session
abbrev pub state_after : Seen → ℕ → State
state_after s k = after s.program s.start (take k s.answers)

-- the statement of the last step of a session
abbrev pub last_statement : Seen → ℕ
last_statement s = (state_after s (length s.answers - 1)).place

-- the answer of a step, by what is asked before it and how many choices were answered; none if no step can be made,
-- since the run has ended or the choice isn't given
abbrev pub answer_to : Chosen → ℕ → Asking → Option (Option Bool)
answer_to chosen n plain = Some None
answer_to chosen n (choice chance) = option_map Some (answer_of chosen n chance)
answer_to chosen n (ended end) = None

-- the answer of the step behind so many steps of a session, and that of its next step
abbrev pub answer_at : Chosen → Seen → ℕ → Option (Option Bool)
answer_at chosen s k = answer_to chosen (length (choices_in (take k s.answers))) (ask s.program (state_after s k))

abbrev pub next_answer : Chosen → Seen → Option (Option Bool)
next_answer chosen s = answer_to chosen (length (choices_in s.answers)) (ask s.program (present s))

-- a session has made one more step, with the answer that was given
abbrev pub Steps : Chosen → Seen → Seen → Type 0
Steps chosen s t = (answer : Option Bool) × (Some answer ≡ next_answer chosen s) × (t ≡ with_answer answer s)

-- how many further steps a session may make
abbrev pub steps_left : (limit : ℕ) → Seen → ℕ
steps_left limit s = limit - length s.answers

-- a session has gone on by further steps, at most so many
pub record GoesOn (most : ℕ) (s t : Seen) : Type 0 where
  pub program : t.program ≡ s.program
  pub start : t.start ≡ s.start
  pub answers : take (length s.answers) t.answers ≡ s.answers
  pub further : length s.answers ≤ length t.answers
  pub within : length t.answers ≤ length s.answers + most

-- each further step had the answer that was given
pub record AreGiven (chosen : Chosen) (s t : Seen) : Type 0 where
  pub each : (k : ℕ) → length s.answers ≤ k → k < length t.answers →
      answer_at chosen t k ≡ Some (get_or t.answers k None)

-- it has passed no state of a kind before its last one
pub record Passes (here : State → Bool) (s t : Seen) : Type 0 where
  pub before : (k : ℕ) → length s.answers < k → k < length t.answers → here (state_after t k) ≡ false

-- further steps lead to the first state of the kind, unless so many steps, a choice that isn't given, or the end of the
-- run come before
pub record StopsFirst (chosen : Chosen) (here : State → Bool) (most : ℕ) (s t : Seen) : Type 0 where
  pub on : GoesOn most s t
  pub given : AreGiven chosen s t
  pub before : Passes here s t
  pub stops : (length t.answers ≡ length s.answers + most)
      ⊎ ((next_answer chosen t ≡ None) ⊎ ((length s.answers < length t.answers) × (here (present t) ≡ true)))

-- the step behind so many steps leaves a name as it was
abbrev pub is_kept : Seen → Name → ℕ → Bool
is_kept s name k = alike (had_at (state_after s k) name) (had_at (state_after s (k + 1)) name)

-- no step of these changes the name
abbrev pub AreKept : Seen → Name → (from to : ℕ) → Type 0
AreKept s name from to = (k : ℕ) → from ≤ k → k < to → is_kept s name k ≡ true

-- the step that is the last one of the first steps to change the name
pub record LastChange (s : Seen) (name : Name) (count at : ℕ) : Type 0 where
  pub within : at < count
  pub changes : is_kept s name at ≡ false
  pub later : AreKept s name (at + 1) count

abbrev pub IsLastChange : Seen → Name → (count : ℕ) → Option ℕ → Type 0
IsLastChange s name count None = AreKept s name 0 count
IsLastChange s name count (Some at) = LastChange s name count at

-- a session has gone back to its first steps
pub record IsAt (s t : Seen) (steps : ℕ) : Type 0 where
  pub program : t.program ≡ s.program
  pub start : t.start ≡ s.start
  pub answers : t.answers ≡ take steps s.answers

-- whether a run goes on, or asks for a choice
abbrev pub is_going : Asking → Bool
is_going plain = true
is_going (choice chance) = true
is_going (ended end) = false

-- a state is of a kind, or it is in front of a statement with a breakpoint
abbrev pub comes : Settings → (State → Bool) → State → Bool
comes f here s = f.breakpoints s.place || here s

abbrev pub is_at_breakpoint : Settings → Seen → Bool
is_at_breakpoint f s = is_going (ask s.program (present s)) && f.breakpoints (present s).place

abbrev pub breakpoint_text : Bool → List ℕ
breakpoint_text there = if there then codes "  breakpoint\n" else []

abbrev pub limit_text : (left : ℕ) → List ℕ
limit_text left = if left == 0 then codes "  limit reached\n" else []

-- where a session is, and that it has come to a breakpoint, or to its limit
abbrev pub where_text : Settings → List LineColumn → Seen → List ℕ
where_text f positions s =
    here_text s.program positions (length s.answers) (present s) ++ breakpoint_text (is_at_breakpoint f s)
    ++ limit_text (steps_left f.limit s)

-- what was printed on the way from one session's state to another's, and where that is
abbrev pub way_text : Settings → List LineColumn → (s t : Seen) → List ℕ
way_text f positions s t =
    printed_text (length (present s).output) (present t) ++ where_text f positions t

-- so many steps were made, and a further one could be
abbrev pub goes_on : Settings → (most : ℕ) → (s t : Seen) → Bool
goes_on f most s t =
    length t.answers == length s.answers + most && nat_lt 0 (steps_left f.limit t) && is_some (next_answer f.given t)
    && not (is_at_breakpoint f t)

abbrev pub going_text : Bool → List ℕ
going_text goes = if goes then codes "  goes on\n" else []

abbrev pub goes_on_text : Settings → (most : ℕ) → (s t : Seen) → List ℕ
goes_on_text f most s t = going_text (goes_on f most s t)

-- further steps were made as far as memory allowed; none of the states before the last one was of the kind
pub record CameSoFar (f : Settings) (here : State → Bool) (s t : Seen) : Type 0 where
  pub on : GoesOn (steps_left f.limit s) s t
  pub given : AreGiven f.given s t
  pub before : Passes (comes f here) s t

-- a session has gone back, to some of its first steps
pub record IsBefore (s t : Seen) : Type 0 where
  pub steps : ℕ
  pub within : steps ≤ length s.answers
  pub at : IsAt s t steps
